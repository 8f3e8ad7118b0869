-- A walk along the trail that counts the records of a gate, and the k-th of what has left it.
use Rattle.std.proofs.Common.{◌≡◌, ℕ, ◌+◌, ◌<◌, List, [], ◌∷◌, ◌++◌, length, get_or, take, drop, sym, ap, ◌∙◌, arith, Ok}
use Rattle.std.specs.List.{slice_get}
use Rattle.std.proofs.lemmas.List.{length_push, length-append, take_more, get_or_append_left, get_or_push}
use Rattle.std.proofs.lemmas.Option.{slice_get_past, slice_get-get_or}
use Rattle.store.specs.Calls.{Gone}
use Rattle.bits.specs.Representation.{gone_in, bare}
use Rattle.bits.specs.Trails.{gone_front}
use Rattle.bits.specs.Meanings.{meaning}
use Rattle.bits.specs.declared.Bits.{Bits}
use Rattle.bits.specs.declared.entry.Record.{Record}
use Rattle.bits.proofs.Moves.{gone_same, gone_other}
use Rattle.bits.proofs.Facts.{on}

pub gone_next : (g : ℕ) (xs : List Record) (i : ℕ) → i < length xs → (get_or xs i bare).gate ≡ g →
    gone_in g (take (i + 1) xs) ≡ gone_in g (take i xs) ++ ((get_or xs i bare).position ∷ [])
gone_next g xs i h e = ap (gone_in g) (take_more xs i bare h) ∙ gone_same g (take i xs) (get_or xs i bare) e

pub gone_skip : (g : ℕ) (xs : List Record) (i : ℕ) → i < length xs → ((get_or xs i bare).gate ≡ g → ⊥) → gone_in g (take (i + 1) xs) ≡ gone_in g (take i xs)
gone_skip g xs i h ne = ap (gone_in g) (take_more xs i bare h) ∙ gone_other g (take i xs) (get_or xs i bare) ne

pub gone_found : (g : ℕ) (xs : List Record) (i k : ℕ) → i < length xs → (get_or xs i bare).gate ≡ g → k ≡ length (gone_in g (take i xs)) →
    (k < length (gone_in g xs)) × (get_or (gone_in g xs) k 0 ≡ (get_or xs i bare).position)
gone_found g xs i k h e ek =
    let front = gone_in g (take i xs) in
    let p = (get_or xs i bare).position in
    let whole : gone_in g xs ≡ (front ++ p ∷ []) ++ gone_in g (drop (i + 1) xs) =
    gone_front g (i + 1) xs ∙ ap (λ l. l ++ gone_in g (drop (i + 1) xs)) (gone_next g xs i h e) in
    let short : k < length (front ++ p ∷ []) = omega (arith, length_push front p) in (
      omega (arith, ap length whole, length-append (front ++ p ∷ []) (gone_in g (drop (i + 1) xs))),
      ap (λ l. get_or l k 0) whole ∙ get_or_append_left (front ++ p ∷ []) (gone_in g (drop (i + 1) xs)) 0 k short ∙ get_or_push front p 0 k (sym ek),
    )

pub gone_is : (s : Bits) (g k : ℕ) → g < s.gates → Gone (meaning s) g k (Ok (slice_get (gone_in g (on s)) k))
gone_is s g k hg =
    let xs = gone_in g (on s) in
    record {
      gate = λ h. absurd (omega arith);
      beyond = λ _ h. ap Ok (slice_get_past xs k h);
      answer = λ _ h. ap Ok (slice_get-get_or xs k 0 h);
    }

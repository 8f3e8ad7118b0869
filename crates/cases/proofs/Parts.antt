-- The bytes of parts, part by part.
use Rattle.std.proofs.Common.{rules, arith, ◌≤◌, ◌-◌, length-drop, ◌≡◌, ◌<◌, ◌+◌, ℕ, zero, suc, List, [], ◌∷◌, ◌++◌, length, take, drop, get_or, Result, Ok, Err, IsOkAnd, refl, sym, ◌∙◌, ap}
use Rattle.std.proofs.lemmas.List.{drop-append-le, append_assoc, append-nil, drop_more, take-append-drop}
use Rattle.std.specs.List.{repeat, slice_range}
use Rattle.std.proofs.Math.Seq.{take-append_seam}
use Rattle.cases.specs.declared.error.CaseError.{CaseError}
use Rattle.cases.specs.Hexadecimal.{part_bytes, joined, parts_bytes}

joined-assoc : (a b c : Result (List ℕ) CaseError) → joined (joined a b) c ≡ joined a (joined b c)
joined-assoc (Ok a) (Ok b) (Ok c) = ap Ok (append_assoc a b c)
joined-assoc (Ok a) (Ok b) (Err e) = refl
joined-assoc (Ok a) (Err e) c = refl
joined-assoc (Err e) b c = refl

joined-none : (a : Result (List ℕ) CaseError) → joined (Ok []) a ≡ a
joined-none (Ok a) = refl
joined-none (Err e) = refl

parts_bytes-append : (xs ys : List (List ℕ)) → parts_bytes (xs ++ ys) ≡ joined (parts_bytes xs) (parts_bytes ys)
parts_bytes-append [] ys = sym (joined-none (parts_bytes ys))
parts_bytes-append (x ∷ xs) ys =
    ap (joined (part_bytes x)) (parts_bytes-append xs ys)
    ∙ sym (joined-assoc (part_bytes x) (parts_bytes xs) (parts_bytes ys))

joined-last : (r : Result (List ℕ) CaseError) (a new : List ℕ) → IsOkAnd r (λ b. new ≡ a ++ b) → joined (Ok a) (joined r (Ok [])) ≡ Ok new
joined-last (Ok b) a new h = ap (λ bs. Ok (a ++ bs)) (append-nil b) ∙ ap Ok (sym h)
joined-last (Err e) a new h = absurd h

-- a part behind parts whose bytes are known
pub parts_bytes-push : (parts : List (List ℕ)) (part a new : List ℕ) → parts_bytes parts ≡ Ok a
    → IsOkAnd (part_bytes part) (λ b. new ≡ a ++ b) → parts_bytes (parts ++ part ∷ []) ≡ Ok new
parts_bytes-push parts part a new so_far h =
    parts_bytes-append parts (part ∷ [])
    ∙ ap (λ r. joined r (joined (part_bytes part) (Ok []))) so_far
    ∙ joined-last (part_bytes part) a new h

-- the first part that has no bytes
pub parts_bytes-stop : (all : List (List ℕ)) (n : ℕ) (part a : List ℕ) (e : CaseError) → n < length all
    → part ≡ get_or all n part → parts_bytes (take n all) ≡ Ok a → part_bytes part ≡ Err e → parts_bytes all ≡ Err e
parts_bytes-stop all n part a e inside at so_far stop =
    let rest : drop n all ≡ part ∷ drop (n + 1) all =
    drop_more all n part inside ∙ ap (λ p. p ∷ drop (n + 1) all) (sym at) in
    let whole : all ≡ take n all ++ (part ∷ drop (n + 1) all) =
    sym (take-append-drop n all) ∙ ap (λ r. take n all ++ r) rest in
    ap parts_bytes whole
    ∙ parts_bytes-append (take n all) (part ∷ drop (n + 1) all)
    ∙ ap (λ r. joined r (joined (part_bytes part) (parts_bytes (drop (n + 1) all)))) so_far
    ∙ ap (λ r. joined (Ok a) (joined r (parts_bytes (drop (n + 1) all)))) stop

one_more : (n : ℕ) → suc n ≡ n + 1
one_more n = search (rules)

-- the last of n + 1 times is as the first
repeat_last : (once : List ℕ) (n : ℕ) → repeat n once ++ once ≡ repeat (suc n) once
repeat_last once zero = sym (append-nil once)
repeat_last once (suc n) = append_assoc once (repeat n once) once ∙ ap (λ xs. once ++ xs) (repeat_last once n)

-- once more behind n times
once_more : (bs so_far once : List ℕ) (n : ℕ) → so_far ≡ bs ++ repeat n once → so_far ++ once ≡ bs ++ repeat (n + 1) once
once_more bs so_far once n h = ap (λ xs. xs ++ once) h ∙ append_assoc bs (repeat n once) once ∙ ap (λ xs. bs ++ xs) (repeat_last once n) ∙ ap (λ k. bs ++ repeat k once) (one_more n)

-- what stood behind a place stands there still when more has come
same_part : (bs xs : List ℕ) (start : ℕ) → start ≤ length bs → slice_range (bs ++ xs) start (length bs) ≡ drop start bs
same_part bs xs start l =
    ap (take (length bs - start)) (drop-append-le start bs xs l)
    ∙ ap (λ k. take k (drop start bs ++ xs)) (sym (length-drop start bs))
    ∙ take-append_seam (drop start bs) xs

-- what stands from a place on, once more behind n times
pub again : (bs so_far : List ℕ) (start n : ℕ) → start ≤ length bs → so_far ≡ bs ++ repeat n (drop start bs)
    → so_far ++ slice_range so_far start (length bs) ≡ bs ++ repeat (n + 1) (drop start bs)
again bs so_far start n l h =
    ap (λ xs. so_far ++ slice_range xs start (length bs)) h
    ∙ ap (λ xs. so_far ++ xs) (same_part bs (repeat n (drop start bs)) start l)
    ∙ once_more bs so_far (drop start bs) n h

repeat_none : (n : ℕ) → repeat {A = ℕ} n [] ≡ []
repeat_none zero = refl
repeat_none (suc n) = repeat_none n

-- nothing, however often, adds nothing
nothing_added : (bs once : List ℕ) (n : ℕ) → length once ≡ 0 → bs ≡ bs ++ repeat n once
nothing_added bs [] n h = sym (ap (λ xs. bs ++ xs) (repeat_none n) ∙ append-nil bs)
nothing_added bs (x ∷ xs) n h = search (h)

-- where nothing stands from a place on, it adds nothing, however often
pub nothing_again : (bs : List ℕ) (start n : ℕ) → start ≡ length bs → bs ≡ bs ++ repeat n (drop start bs)
nothing_again bs start n e = nothing_added bs (drop start bs) n (length-drop start bs ∙ (let z : length bs - start ≡ 0 = omega arith in z))

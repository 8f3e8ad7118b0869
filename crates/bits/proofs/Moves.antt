-- One record more on the trail, and one less: what the facts of a bit store become.
use Rattle.std.proofs.Common.{◌≡◌, ℕ, zero, suc, ◌+◌, ◌-◌, ◌<◌, ◌≤◌, Bool, true, false, not, ◌&&◌, ◌||◌, eqb, ltb, List, [], ◌∷◌, ◌++◌, map, length, get_or, take, set, sym, refl, ap, ◌∙◌, subst, ap₂, ⊎_elim, arith}
use mathlib.Core.Path.{fun_ext}
use Rattle.std.proofs.lemmas.List.{append-nil, length_push, get_or_append_left, get_or-set_same, get_or-set_other, take-take, take-append-le}
use Rattle.std.proofs.lemmas.Bool.{cases_eq, cases_lt, cond-true, cond-false, eq-eqb, ne_eqb, lt-ltb, or_left, or_right, or_from}
use Rattle.model.specs.Families.{has}
use Rattle.model.specs.Planners.{Once}
use Rattle.model.proofs.Tests.{is_true}
use Rattle.model.proofs.Meaning.{has_append}
use Rattle.store.proofs.Members.{true_is, once_push, once_apart}
use Rattle.rows.specs.Rows.{lit, Holds}
use Rattle.bits.specs.Representation.{gone_in, bare, blank, row_at, count_at, Listed, Apart, Tied, Counts, Marks, marks_of}
use Rattle.bits.specs.Trails.{gone_append, gone_once}
use Rattle.bits.specs.declared.domain.Domain.{Domain}
use Rattle.bits.specs.declared.entry.Record.{Record}

pub gone_same : (g : ℕ) (xs : List Record) (r : Record) → r.gate ≡ g → gone_in g (xs ++ r ∷ []) ≡ gone_in g xs ++ (r.position ∷ [])
gone_same g xs r e =
    gone_append g xs (r ∷ []) ∙ ap (λ l. gone_in g xs ++ map (λ (r : Record). r.position) l) (cond-true (eqb r.gate g) (r ∷ []) [] (eq-eqb r.gate g e))

pub gone_other : (g : ℕ) (xs : List Record) (r : Record) → (r.gate ≡ g → ⊥) → gone_in g (xs ++ r ∷ []) ≡ gone_in g xs
gone_other g xs r ne =
    gone_append g xs (r ∷ []) ∙ ap (λ l. gone_in g xs ++ map (λ (r : Record). r.position) l) (cond-false (eqb r.gate g) (r ∷ []) [] (ne_eqb r.gate g ne))
    ∙ append-nil (gone_in g xs)

once_gone : (xs : List Record) → ((g : ℕ) → Once (gone_in g xs)) → Apart xs
once_gone xs o = λ x. once_apart (gone_in x.0 xs) (o x.0) x.1 x.2 x.3 x.4 x.5

-- lists that have each number once
once_front : (xs ys : List ℕ) → Once (xs ++ ys) → Once xs
once_front [] ys o = tt
once_front (x ∷ xs) ys o = (
  λ t. o.0 (true_is (has (xs ++ ys) x) (has_append xs ys x ∙ or_left (has xs x) (has ys x) (is_true (has xs x) t))),
  once_front xs ys o.1,
)

once_end : (xs : List ℕ) (p : ℕ) → Once (xs ++ p ∷ []) → has xs p ≡ false
once_end [] p o = refl
once_end (x ∷ xs) p o =
    or_from (eqb p x) (has xs p)
    (ne_eqb p x (λ e. o.0 (true_is (has (xs ++ p ∷ []) x) (has_append xs (p ∷ []) x ∙ or_right (has xs x) (eqb x p || false) (or_left (eqb x p) false (eq-eqb x p (sym e)))))))
    (once_end xs p o.1)

pub both_not : (a b c : Bool) → ((a && not b) && not c) ≡ (a && not (b || (c || false)))
both_not true true true = refl
both_not true true false = refl
both_not true false true = refl
both_not true false false = refl
both_not false b c = refl

back_test : (a b c : Bool) → c ≡ false → (c || (a && not (b || (c || false)))) ≡ (a && not b)
back_test a true c e = ap (λ x. x || (a && not (true || (x || false)))) e
back_test a false c e = ap (λ x. x || (a && not (false || (x || false)))) e

-- one more
module _ (xs : List Record) (r : Record) where
  abbrev longer : List Record
  longer = xs ++ r ∷ []

  record_at : get_or longer (length xs) bare ≡ r
  record_at = go xs
    where
      go : (ys : List Record) → get_or (ys ++ r ∷ []) (length ys) bare ≡ r
      go [] = refl
      go (y ∷ ys) = go ys

  pub apart_push : Apart xs → has (gone_in r.gate xs) r.position ≡ false → Apart longer
  apart_push a m = once_gone longer (λ g. ⊎_elim
      (λ (e : r.gate ≡ g). subst Once (sym (gone_same g xs r e))
      (once_push (gone_in g xs) r.position (gone_once xs a g) (subst (λ h. has (gone_in h xs) r.position ≡ false) e m)))
      (λ (ne : r.gate ≡ g → ⊥). subst Once (sym (gone_other g xs r ne)) (gone_once xs a g))
      (cases_eq r.gate g))

  pub apart_pop : Apart longer → Apart xs
  apart_pop a = once_gone xs (λ g. once_front (gone_in g xs) (gone_in g (r ∷ [])) (subst Once (gone_append g xs (r ∷ [])) (gone_once longer a g)))

  pub apart_last : Apart longer → has (gone_in r.gate xs) r.position ≡ false
  apart_last a = once_end (gone_in r.gate xs) r.position (subst Once (gone_same r.gate xs r refl) (gone_once longer a r.gate))

  has_more : (q : ℕ) → has (gone_in r.gate longer) q ≡ (has (gone_in r.gate xs) q || (eqb q r.position || false))
  has_more q = ap (λ l. has l q) (gone_same r.gate xs r refl) ∙ has_append (gone_in r.gate xs) (r.position ∷ []) q

  pub marks_grow : (marks : List ℕ) (depth : ℕ) → Marks xs marks depth → Marks longer marks depth
  marks_grow marks depth m = λ x. let a = m x in let s = length_push xs r in (a.0, omega (arith, a.1))

  module _ (n w : ℕ) where
    pub listed_push : Listed xs n w → r.gate < n → r.position < w → Listed longer n w
    listed_push h hg hp = λ x.
        let s = length_push xs r in
        ⊎_elim
        (λ (l : x.0 < length xs).
        subst (λ (y : Record). (y.gate < n) × (y.position < w)) (sym (get_or_append_left xs (r ∷ []) bare x.0 l)) (h (x.0, l)))
        (λ (l : length xs ≤ x.0).
        let f : x.0 ≡ length xs = omega (arith, x.1) in
        subst (λ (y : Record). (y.gate < n) × (y.position < w)) (sym (ap (λ i. get_or longer i bare) f ∙ record_at)) (hg, hp))
        (cases_lt x.0 (length xs))

    pub listed_pop : Listed longer n w → Listed xs n w
    listed_pop h = λ x.
        let s = length_push xs r in
        subst (λ (y : Record). (y.gate < n) × (y.position < w)) (get_or_append_left xs (r ∷ []) bare x.0 x.1) (h (x.0, omega (arith, x.1)))

    pub listed_last : Listed longer n w → (r.gate < n) × (r.position < w)
    listed_last h =
        let s = length_push xs r in
        subst (λ (y : Record). (y.gate < n) × (y.position < w)) record_at (h (length xs, omega arith))

    -- the domains, where that of the record's gate is another
    module _ (domains : List Domain) (d : Domain) (long : r.gate < length domains) where
      abbrev domains' : List Domain
      domains' = set domains r.gate d

      pub tied_push : Tied xs n w domains → Holds d.row (λ q. lit (row_at domains r.gate) q && not (eqb q r.position)) → Tied longer n w domains'
      tied_push t h = λ x. ⊎_elim
          (λ (e : x.0 ≡ r.gate).
          let q = x.1 in
          let hg : r.gate < n = subst (λ g. g < n) e x.2 in
          ap (λ g. lit (row_at domains' g) q) e ∙ ap (λ (y : Domain). lit y.row q) (get_or-set_same domains r.gate d blank long)
          ∙ h q x.3 ∙ ap (λ b. b && not (eqb q r.position)) (t (r.gate, q, hg, x.3))
          ∙ both_not (ltb q w) (has (gone_in r.gate xs) q) (eqb q r.position)
          ∙ ap (λ b. ltb q w && not b) (sym (has_more q)) ∙ ap (λ g. ltb q w && not (has (gone_in g longer) q)) (sym e))
          (λ (ne : x.0 ≡ r.gate → ⊥).
          ap (λ (y : Domain). lit y.row x.1) (get_or-set_other domains r.gate x.0 d blank ne) ∙ t x
          ∙ ap (λ l. ltb x.1 w && not (has l x.1)) (sym (gone_other x.0 xs r (λ e. ne (sym e)))))
          (cases_eq x.0 r.gate)

      pub tied_pop : Tied longer n w domains → r.position < w → has (gone_in r.gate xs) r.position ≡ false
          → Holds d.row (λ q. eqb q r.position || lit (row_at domains r.gate) q) → Tied xs n w domains'
      tied_pop t hp m h = λ x. ⊎_elim
          (λ (e : x.0 ≡ r.gate).
          let q = x.1 in
          let hg : r.gate < n = subst (λ g. g < n) e x.2 in
          let before = t (r.gate, q, hg, x.3) ∙ ap (λ b. ltb q w && not b) (has_more q) in
          ap (λ g. lit (row_at domains' g) q) e ∙ ap (λ (y : Domain). lit y.row q) (get_or-set_same domains r.gate d blank long)
          ∙ h q x.3 ∙ ap (λ b. eqb q r.position || b) before
          ∙ ⊎_elim
          (λ (f : q ≡ r.position).
          ap (λ c. c || (ltb q w && not (has (gone_in r.gate xs) q || (c || false)))) (eq-eqb q r.position f)
          ∙ sym (ap₂ (λ a b. a && not b) (lt-ltb q w (subst (λ p. p < w) (sym f) hp)) (subst (λ p. has (gone_in r.gate xs) p ≡ false) (sym f) m)))
          (λ (f : q ≡ r.position → ⊥). back_test (ltb q w) (has (gone_in r.gate xs) q) (eqb q r.position) (ne_eqb q r.position f))
          (cases_eq q r.position)
          ∙ ap (λ g. ltb q w && not (has (gone_in g xs) q)) (sym e))
          (λ (ne : x.0 ≡ r.gate → ⊥).
          ap (λ (y : Domain). lit y.row x.1) (get_or-set_other domains r.gate x.0 d blank ne) ∙ t x
          ∙ ap (λ l. ltb x.1 w && not (has l x.1)) (gone_other x.0 xs r (λ e. ne (sym e))))
          (cases_eq x.0 r.gate)

      counts_set : (ys : List Record) → ((h : ℕ) → h < n → (h ≡ r.gate → ⊥) → count_at domains h ≡ w - length (gone_in h ys)) → d.count ≡ w - length (gone_in r.gate ys)
          → Counts ys n w domains'
      counts_set ys f e = λ x. ⊎_elim
          (λ (z : x.0 ≡ r.gate).
          ap (count_at domains') z ∙ ap (λ (y : Domain). y.count) (get_or-set_same domains r.gate d blank long) ∙ e ∙ ap (λ g. w - length (gone_in g ys)) (sym z))
          (λ (ne : x.0 ≡ r.gate → ⊥). ap (λ (y : Domain). y.count) (get_or-set_other domains r.gate x.0 d blank ne) ∙ f x.0 x.1 ne)
          (cases_eq x.0 r.gate)

      pub counts_push : Counts xs n w domains → r.gate < n → d.count ≡ count_at domains r.gate - 1 → Counts longer n w domains'
      counts_push c hg less =
          let l : length (gone_in r.gate longer) ≡ length (gone_in r.gate xs) + 1 = ap length (gone_same r.gate xs r refl) ∙ length_push (gone_in r.gate xs) r.position in
          counts_set longer
          (λ h hh ne. c (h, hh) ∙ ap (λ ys. w - length ys) (sym (gone_other h xs r (λ e. ne (sym e)))))
          (omega (arith, c (r.gate, hg), less))

      pub counts_pop : Counts longer n w domains → length (gone_in r.gate longer) ≤ w → r.gate < n → d.count ≡ count_at domains r.gate + 1 → Counts xs n w domains'
      counts_pop c few hg more =
          let l : length (gone_in r.gate longer) ≡ length (gone_in r.gate xs) + 1 = ap length (gone_same r.gate xs r refl) ∙ length_push (gone_in r.gate xs) r.position in
          counts_set xs
          (λ h hh ne. c (h, hh) ∙ ap (λ ys. w - length ys) (gone_other h xs r (λ e. ne (sym e))))
          (omega (arith, c (r.gate, hg), more))

-- what the marks mean
module _ (marks : List ℕ) where
  pub marks_push : (xs ys : List Record) (d : ℕ) → ((e : ℕ) → e < d → get_or marks e 0 ≤ length xs) → marks_of (xs ++ ys) marks d ≡ marks_of xs marks d
  marks_push xs ys zero h = refl
  marks_push xs ys (suc d) h =
      ap₂ (λ (k : ℕ → ℕ) (ks : List (ℕ → ℕ)). k ∷ ks)
      (fun_ext (λ g. ap (λ l. length (gone_in g l)) (take-append-le (get_or marks d 0) xs ys (h d (omega arith)))))
      (marks_push xs ys d (λ e l. h e (omega arith)))

  pub marks_cut : (xs : List Record) (k d : ℕ) → ((e : ℕ) → e < d → get_or marks e 0 ≤ k) → marks_of (take k xs) marks d ≡ marks_of xs marks d
  marks_cut xs k zero h = refl
  marks_cut xs k (suc d) h =
      ap₂ (λ (k : ℕ → ℕ) (ks : List (ℕ → ℕ)). k ∷ ks)
      (fun_ext (λ g. ap (λ l. length (gone_in g l)) (take-take (get_or marks d 0) k xs (h d (omega arith)))))
      (marks_cut xs k d (λ e l. h e (omega arith)))

  pub marks_set : (xs : List Record) (j v d : ℕ) → d ≤ j → marks_of xs (set marks j v) d ≡ marks_of xs marks d
  marks_set xs j v zero h = refl
  marks_set xs j v (suc d) h =
      ap₂ (λ (k : ℕ → ℕ) (ks : List (ℕ → ℕ)). k ∷ ks)
      (fun_ext (λ g. ap (λ m. length (gone_in g (take m xs))) (get_or-set_other marks j d v 0 (λ e. omega arith))))
      (marks_set xs j v d (omega arith))

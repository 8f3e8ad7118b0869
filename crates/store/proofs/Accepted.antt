-- What an answer tells of an accepted call: that it was to be accepted, and what it left.
use Rattle.std.proofs.Common.{◌≡◌, ℕ, ◌+◌, ◌-◌, ◌*◌, ◌<◌, ◌≤◌, true, false, eqb, ◌⊎◌, List, [], ◌∷◌, length, Ok, Err, Result, inl, inr, ⊎_elim, arith}
use Rattle.std.proofs.lemmas.Bool.{cases_lt, cases_Bool}
use Rattle.model.specs.declared.refusal.Refusal.{Refusal}
use Rattle.model.specs.Bounds.{most_gates, most_width, most_marks}
use Rattle.model.specs.Families.{has}
use Rattle.model.specs.Planners.{all_below}
use Rattle.store.specs.Meaning.{Meaning, appended, fresh, saved, restored}
use Rattle.store.specs.Calls.{Takes, Reset, Strike, Bind, Keep, Kept, Save, Restore}

pub not_both : {A : Type 0} (a : A) (k : Refusal) → ◌≡◌ {A = Result A Refusal} (Ok a) (Err k) → ⊥
not_both a k e = let z : ◌≡◌ {A = ℕ} 0 1 = cc e in omega arith

pick : (A : Type 0) {B : Type 0} → A ⊎ B → (B → ⊥) → A
pick A d f = ⊎_elim (λ a. a) (λ b. absurd (f b)) d

flip : {A B : Type 0} → A ⊎ B → B ⊎ A
flip d = ⊎_elim (λ a. inr a) (λ b. inl b) d

pub reset_ok : (m m' : Meaning) (n w : ℕ) → Reset m n w (Ok (tt {0})) m' → Takes m n w × (m' ≡ fresh m.cells n w)
reset_ok m m' n w r =
    let a : 1 ≤ n = pick (1 ≤ n) (cases_lt 0 n) (λ x. not_both tt _ (r.no_gate (omega arith)).0) in
    let b : n ≤ most_gates = pick (n ≤ most_gates) (flip (cases_lt most_gates n)) (λ x. not_both tt _ (r.many_gates x).0) in
    let c : 1 ≤ w = pick (1 ≤ w) (cases_lt 0 w) (λ x. not_both tt _ (r.no_position (omega arith)).0) in
    let d : w ≤ most_width = pick (w ≤ most_width) (flip (cases_lt most_width w)) (λ x. not_both tt _ (r.wide x).0) in
    let e : n * w ≤ m.cells = pick (n * w ≤ m.cells) (flip (cases_lt m.cells (n * w))) (λ x. not_both tt _ (r.large x).0) in
    (record { some_gates = a; few_gates = b; some_positions = c; few_positions = d; room = e }, (r.done a b c d e).1)

pub strike_ok : (m m' : Meaning) (g p a : ℕ) → Strike m g p (Ok a) m' → (g < m.gates) × (p < m.width) × ((m' ≡ m) ⊎ (m' ≡ appended m g (p ∷ [])))
strike_ok m m' g p a s =
    let hg : g < m.gates = pick (g < m.gates) (cases_lt g m.gates) (λ h. not_both a _ (s.gate h).0) in
    let hp : p < m.width = pick (p < m.width) (cases_lt p m.width) (λ h. not_both a _ (s.position hg h).0) in
    (hg, hp, ⊎_elim (λ (b : has (m.gone g) p ≡ true). inl (s.miss hg hp b).1) (λ (b : has (m.gone g) p ≡ false). inr (s.hit hg hp b).1) (cases_Bool (has (m.gone g) p)))

pub bind_ok : (m m' : Meaning) (g p a : ℕ) → Bind m g p (Ok a) m' → (g < m.gates) × (p < m.width) × Kept m g (λ q. eqb q p) (Ok a) m'
bind_ok m m' g p a s =
    let hg : g < m.gates = pick (g < m.gates) (cases_lt g m.gates) (λ h. not_both a _ (s.gate h).0) in
    let hp : p < m.width = pick (p < m.width) (cases_lt p m.width) (λ h. not_both a _ (s.position hg h).0) in
    (hg, hp, s.done hg hp)

pub keep_ok : (m m' : Meaning) (g a : ℕ) (list : List ℕ) → Keep m g list (Ok a) m' → (g < m.gates) × (all_below m.width list ≡ true) × Kept m g (has list) (Ok a) m'
keep_ok m m' g a list s =
    let hg : g < m.gates = pick (g < m.gates) (cases_lt g m.gates) (λ h. not_both a _ (s.gate h).0) in
    let all : all_below m.width list ≡ true =
    pick (all_below m.width list ≡ true) (cases_Bool (all_below m.width list)) (λ h. not_both a _ (s.position hg h).0) in
    (hg, all, s.done hg all)

pub save_ok : (m m' : Meaning) (a : ℕ) → Save m (Ok a) m' → (length m.marks < most_marks) × (◌≡◌ {A = Result ℕ Refusal} (Ok a) (Ok (length m.marks + 1))) × (m' ≡ saved m)
save_ok m m' a s =
    let h : length m.marks < most_marks = pick (length m.marks < most_marks) (cases_lt (length m.marks) most_marks) (λ h. not_both a _ (s.full h).0) in
    let d = s.done h in (h, d.0, d.1)

pub restore_ok : (m m' : Meaning) (a : ℕ) → Restore m (Ok a) m' → (0 < length m.marks) × (◌≡◌ {A = Result ℕ Refusal} (Ok a) (Ok (length m.marks - 1))) × (m' ≡ restored m)
restore_ok m m' a s =
    let h : 0 < length m.marks = pick (0 < length m.marks) (cases_lt 0 (length m.marks)) (λ h. not_both a _ (s.none (omega arith)).0) in
    let d = s.done h in (h, d.0, d.1)

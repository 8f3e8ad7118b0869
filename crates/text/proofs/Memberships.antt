-- Members with gates that differ, as a loop that adds one after another has them.
use Rattle.std.proofs.Common.{◌≡◌, ℕ, ◌+◌, ◌/◌, ◌<◌, ◌≤◌, true, false, ◌||◌, eqb, leb, List, [], ◌∷◌, ◌++◌, map, length, get_or, take, set, Some, None, sym, refl, ap, ◌∙◌, arith}
use Rattle.std.proofs.lemmas.List.{append_assoc, take_more_set, map_push}
use Rattle.std.proofs.lemmas.List.Folds.{list_any-append}
use Rattle.std.proofs.lemmas.Bool.Decides.{nat_tests}
use Rattle.std.proofs.lemmas.Bool.{and_left, and_right, lt-leb, cond-false}
use Rattle.model.specs.Bounds.{most_members}
use Rattle.model.specs.Members.{member_of, has_gate, gates_differ}
use Rattle.model.specs.declared.rule.member.Member.{Member}
use Rattle.text.specs.Tests.{within}
use Rattle.text.specs.Payloads.{members_in, gates_below, members_of}
use Rattle.text.proofs.Pairings.{peel}

pub members_peel : (xs pair rest : List ℕ) → xs ≡ pair ++ rest → length pair ≡ 2 → members_in xs ≡ (get_or pair 0 0, get_or pair 1 0) ∷ members_in rest
members_peel xs pair rest e n = ap members_in (peel xs pair rest e n)

pub length-members_in : (xs : List ℕ) → length (members_in xs) ≡ length xs / 2
length-members_in [] = refl
length-members_in (a ∷ []) = refl
length-members_in (a ∷ (b ∷ xs)) = let i = length-members_in xs in omega arith

-- those held, then the next pair and what follows
pub next_pair : (list : List Member) (n i : ℕ) (xs pair rest pairs : List ℕ) → i ≡ n → xs ≡ pair ++ rest → length pair ≡ 2 → map member_of (take n list) ++ members_in xs ≡ members_in pairs
    → map member_of (take i list) ++ ((get_or pair 0 0, get_or pair 1 0) ∷ members_in rest) ≡ members_in pairs
next_pair list n i xs pair rest pairs same e two all = rw same (ap (λ (t : List (ℕ × ℕ)). map member_of (take n list) ++ t) (sym (members_peel xs pair rest e two)) ∙ all)

has_append : (xs ys : List (ℕ × ℕ)) (g : ℕ) → has_gate (xs ++ ys) g ≡ (has_gate xs g || has_gate ys g)
has_append xs ys g = list_any-append (λ m. eqb m.0 g) xs ys

pub differ_push : (xs : List (ℕ × ℕ)) (m : ℕ × ℕ) → gates_differ xs ≡ true → has_gate xs m.0 ≡ false → gates_differ (xs ++ (m ∷ [])) ≡ true
differ_push [] m a l = refl
differ_push (x ∷ xs) m a l =
    let b : gates_differ xs ≡ true = grind arith in
    let k : has_gate xs m.0 ≡ false = grind arith in
    let i = differ_push xs m b k in
    let j = has_append xs (m ∷ []) x.0 in
    grind (arith, nat_tests)

pub differ_twice : (xs : List (ℕ × ℕ)) (m : ℕ × ℕ) (ys : List (ℕ × ℕ)) → has_gate xs m.0 ≡ true → gates_differ (xs ++ (m ∷ ys)) ≡ false
differ_twice [] m ys l = grind arith
differ_twice (x ∷ xs) m ys l =
    let i = differ_twice xs m ys in
    let j = has_append xs (m ∷ ys) x.0 in
    grind (arith, nat_tests)

pub below_push : (n : ℕ) (xs : List (ℕ × ℕ)) (m : ℕ × ℕ) → gates_below n xs ≡ true → m.0 < n → gates_below n (xs ++ (m ∷ [])) ≡ true
below_push n [] m a h = grind (arith, nat_tests)
below_push n (x ∷ xs) m a h =
    let b : gates_below n xs ≡ true = grind arith in
    let i = below_push n xs m b h in
    grind arith

pub below_high : (n : ℕ) (xs : List (ℕ × ℕ)) (m : ℕ × ℕ) (ys : List (ℕ × ℕ)) → n ≤ m.0 → gates_below n (xs ++ (m ∷ ys)) ≡ false
below_high n [] m ys h = grind (arith, nat_tests)
below_high n (x ∷ xs) m ys h = let i = below_high n xs m ys h in grind arith

-- the ways out of the loop: there are too many, a gate is too high, or one stands twice
pub too_many : (bytes : List ℕ) (n : ℕ) → most_members < length (members_in bytes) → None ≡ members_of bytes n
too_many bytes n h = sym (cond-false _ _ _ (and_left _ _ (and_right (leb 1 (length (members_in bytes))) _ (lt-leb _ _ h))))

pub too_few : (bytes : List ℕ) (n : ℕ) → length (members_in bytes) < 1 → None ≡ members_of bytes n
too_few bytes n h = sym (cond-false _ _ _ (and_left _ _ (and_left _ _ (lt-leb _ _ h))))

pub too_high : (bytes : List ℕ) (n : ℕ) → gates_below n (members_in bytes) ≡ false → None ≡ members_of bytes n
too_high bytes n e = sym (cond-false _ _ _ (and_right _ _ (and_left _ _ e)))

pub twice : (bytes : List ℕ) (n : ℕ) → gates_differ (members_in bytes) ≡ false → None ≡ members_of bytes n
twice bytes n e =
    sym (cond-false _ (Some (members_in bytes)) _ (and_right (within 1 most_members (length (members_in bytes))) _ (and_right (gates_below n (members_in bytes)) _ e)))

-- one member more at the end of those held
pub held_push : (list : List Member) (count : ℕ) (m : Member) → count < length list
    → map member_of (take (count + 1) (set list count m)) ≡ map member_of (take count list) ++ (member_of m ∷ [])
held_push list count m h = ap (map member_of) (take_more_set list count m h) ∙ map_push member_of (take count list) m

pub one_more : (list : List Member) (count : ℕ) (m : Member) (ys zs : List (ℕ × ℕ)) → count < length list
    → map member_of (take count list) ++ (member_of m ∷ ys) ≡ zs → map member_of (take (count + 1) (set list count m)) ++ ys ≡ zs
one_more list count m ys zs h e =
    ap (λ (t : List (ℕ × ℕ)). t ++ ys) (held_push list count m h)
    ∙ (append_assoc (map member_of (take count list)) (member_of m ∷ []) ys ∙ e)

-- What one field more behind others changes in what they say.
use Rattle.std.proofs.Common.{◌≡◌, ℕ, ◌<◌, Bool, true, false, not, ◌&&◌, ◌||◌, List, [], ◌∷◌, ◌++◌, length, drop, sym, refl, ap, ◌∙◌, arith}
use Rattle.std.specs.List.{flat_map}
use Rattle.std.proofs.lemmas.List.{flat_map_more}
use Rattle.std.proofs.lemmas.List.Folds.{list_any-append}
use Rattle.std.proofs.lemmas.Bool.{both_ways}
use Rattle.text.specs.declared.head.Head.{Head as Size}
use Rattle.text.specs.Ranges.{covered}
use Rattle.plan.specs.Plans.{Field, size_in, lists, is_listed, chosen, opens, rule_by, rules_in}

pub or_false : (b : Bool) → (b || false) ≡ b
or_false true = refl
or_false false = refl

pub longer : (ps : List Field) (p : Field) → 0 < length (ps ++ (p ∷ []))
longer [] p = omega arith
longer (q ∷ ps) p = omega arith

pub size_behind : (ps : List Field) (p : Field) → 0 < length ps → size_in (ps ++ (p ∷ [])) ≡ size_in ps
size_behind [] p h = absurd (omega arith)
size_behind (q ∷ ps) p h = refl

pub listed_behind : (ps : List Field) (p : Field) (g : ℕ) → is_listed (ps ++ (p ∷ [])) g ≡ (is_listed ps g || lists g p)
listed_behind ps p g = list_any-append (lists g) ps (p ∷ []) ∙ ap (λ (b : Bool). is_listed ps g || b) (or_false (lists g p))

chosen_behind : (ps : List Field) (p : Field) (g q : ℕ) → chosen (ps ++ (p ∷ [])) g q ≡ (chosen ps g q || (lists g p && covered (drop 1 p.bytes) q))
chosen_behind ps p g q =
    list_any-append (λ r. lists g r && covered (drop 1 r.bytes) q) ps (p ∷ [])
    ∙ ap (λ (b : Bool). chosen ps g q || b) (or_false (lists g p && covered (drop 1 p.bytes) q))

neither : (l k c d : Bool) → (l || d) ≡ false → (d ≡ false → c ≡ false) → ((l && k) || c) ≡ false
neither true k c d e f = absurd (both_ways true e refl)
neither false k c d e f = f e

none_chosen : (ps : List Field) (g q : ℕ) → is_listed ps g ≡ false → chosen ps g q ≡ false
none_chosen [] g q e = refl
none_chosen (p ∷ ps) g q e = neither (lists g p) (covered (drop 1 p.bytes) q) (chosen ps g q) (is_listed ps g) e (none_chosen ps g q)

-- a field that does not list the gate leaves what it starts with
pub opens_same : (ps : List Field) (p : Field) (g q : ℕ) → lists g p ≡ false → opens (ps ++ (p ∷ [])) g q ≡ opens ps g q
opens_same ps p g q e = go (is_listed ps g) (chosen ps g q) (lists g p) e (listed_behind ps p g) (chosen_behind ps p g q)
  where
    go : (l c n : Bool) → n ≡ false → is_listed (ps ++ (p ∷ [])) g ≡ (l || n) → chosen (ps ++ (p ∷ [])) g q ≡ (c || (n && covered (drop 1 p.bytes) q))
        → opens (ps ++ (p ∷ [])) g q ≡ (not l || c)
    go l c true x a b = absurd (both_ways true x refl)
    go l c false x a b = ap (λ (t : Bool). not t || chosen (ps ++ (p ∷ [])) g q) (a ∙ or_false l) ∙ ap (λ (t : Bool). not l || t) (b ∙ or_false c)

-- the first that lists it decides it
pub opens_new : (ps : List Field) (p : Field) (g q : ℕ) → lists g p ≡ true → is_listed ps g ≡ false → opens (ps ++ (p ∷ [])) g q ≡ covered (drop 1 p.bytes) q
opens_new ps p g q e fresh =
    ap (λ (t : Bool). not t || chosen (ps ++ (p ∷ [])) g q) (listed_behind ps p g ∙ (ap (λ (t : Bool). is_listed ps g || t) e ∙ ap (λ (t : Bool). t || true) fresh))
    ∙ (chosen_behind ps p g q ∙ (ap (λ (t : Bool). t || (lists g p && covered (drop 1 p.bytes) q)) (none_chosen ps g q fresh) ∙ ap (λ (t : Bool). t && covered (drop 1 p.bytes) q) e))

pub rules_behind : (ps : List Field) (p : Field) → 0 < length ps → rules_in (ps ++ (p ∷ [])) ≡ rules_in ps ++ rule_by (size_in ps).gates p
rules_behind ps p h =
    ap (λ (s : Size). flat_map (rule_by s.gates) (ps ++ (p ∷ []))) (size_behind ps p h) ∙ sym (flat_map_more (rule_by (size_in ps).gates) [] ps p)

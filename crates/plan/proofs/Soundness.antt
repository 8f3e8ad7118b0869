-- What is read names only gates and positions that there are.
use Rattle.std.proofs.Common.{◌≡◌, ℕ, ◌+◌, ◌-◌, ◌<◌, ◌≤◌, Bool, true, false, cond, not, ◌&&◌, T, eqb, ltb, leb, ◌⊎◌, List, [], ◌∷◌, ◌++◌, length, get_or, take, drop, ℤ, Some, None, Ok, Err, Option, Result, sym, refl, ap, ◌∙◌, subst, inl, inr, ⊎_elim, arith, ltb→lt, leb→le, length-take, ltb-false}
use mathlib.Core.List.Memᴰ
use lib.ListN.{length-map}
use Rattle.std.specs.List.{flat_map}
use Rattle.std.specs.Option.{option_map, option_to_list}
use Rattle.model.specs.Bounds.{most_members}
use Rattle.model.specs.Families.{◌∈◌}
use Rattle.model.specs.Members.{gates_differ}
use Rattle.model.specs.Rules.{Rule as Law, offset, near, not_above, total, rule_of}
use Rattle.model.specs.Plans.{NamesBelow, Load, WellNamed, SoundLoad}
use Rattle.model.specs.declared.refusal.Refusal.{Refusal}
use Rattle.model.specs.declared.refusal.Refusal.TheVariants.{Truncated}
use Rattle.text.specs.declared.fault.Fault.{Fault}
use Rattle.text.specs.declared.kind.PlanKind.{PlanKind}
use Rattle.text.specs.declared.kind.PlanKind.TheVariants.{Head, Positions, Rule, End}
use Rattle.text.specs.declared.kind.RuleKind.{RuleKind}
use Rattle.text.specs.declared.kind.RuleKind.TheVariants.{Offset, Near, NotAbove, Total}
use Rattle.text.specs.Fields.{prefix_at, with_kind, with_prefix, field_at, next_at}
use Rattle.text.specs.Kinds.{plan_kind}
use Rattle.text.specs.Lengths.{with_payload}
use Rattle.text.specs.Tests.{when, within}
use Rattle.text.specs.Payloads.{two_gates, link_in, members_in, gates_below, members_of, quad_at, with_members, rule_in}
use Rattle.plan.specs.declared.Plan.{Plan}
use Rattle.plan.specs.declared.read.Loaded.{Loaded}
use Rattle.plan.specs.Views.{load_of}
use Rattle.plan.specs.Plans.{Field, plan_field, size_in, rules_by, rule_by, load_in, plan_text}
use Rattle.plan.specs.Drafts.{seen_plan}
use Rattle.plan.specs.Meanings.{Means, Sound}
use Rattle.model.proofs.Tests.{left, right}
use Rattle.plan.proofs.Verdicts.{differ, none_some}
use Rattle.plan.proofs.Meaning.{means_only}

-- what is there passed its test
passed : {X : Type 0} (b : Bool) (x y : X) → when b x ≡ Some y → T b × (x ≡ y)
passed true x y e = (tt, cc)
passed false x y e = absurd (none_some e)

gates_named : (n x y : ℕ) → T (two_gates n x y) → (x < n) × (y < n)
gates_named n x y t =
    (ltb→lt x n (left (ltb x n) (ltb y n && not (eqb x y)) t), ltb→lt y n (left (ltb y n) (not (eqb x y)) (right (ltb x n) (ltb y n && not (eqb x y)) t)))

link_named : (bytes : List ℕ) (n : ℕ) (l : ℕ × ℕ × ℤ) → link_in bytes n ≡ Some l → (l.0 < n) × (l.1 < n)
link_named bytes n l e =
    let p = passed (eqb (length bytes) 4 && (two_gates n (get_or bytes 0 0) (get_or bytes 1 0) && _)) _ l e in
    subst (λ (k : ℕ × ℕ × ℤ). (k.0 < n) × (k.1 < n)) p.1
    (gates_named n (get_or bytes 0 0) (get_or bytes 1 0) (left (two_gates n (get_or bytes 0 0) (get_or bytes 1 0)) _ (right (eqb (length bytes) 4) _ p.0)))

linked : (bytes : List ℕ) (n : ℕ) (rule : ℕ → ℕ → ℤ → Law) → ((x y : ℕ) (c : ℤ) → (x < n) × (y < n) → NamesBelow n (rule x y c))
    → (o : Option (ℕ × ℕ × ℤ)) → link_in bytes n ≡ o → (r : Law) → option_map (λ l. rule l.0 l.1 l.2) o ≡ Some r → NamesBelow n r
linked bytes n rule names None is r e = absurd (none_some e)
linked bytes n rule names (Some l) is r e =
    let same : rule l.0 l.1 l.2 ≡ r = cc in
    subst (NamesBelow n) same (names l.0 l.1 l.2 (link_named bytes n l is))

members_below : (n : ℕ) (ms : List (ℕ × ℕ)) → T (gates_below n ms) → (m : ℕ × ℕ) → m ∈ ms → m.0 < n
members_below n [] t m i = absurd (Memᴰ.not-nil i)
members_below n (k ∷ ms) t m (Memᴰ.head e) = subst (λ (j : ℕ × ℕ). j.0 < n) (sym e) (ltb→lt k.0 n (left (ltb k.0 n) (gates_below n ms) t))
members_below n (k ∷ ms) t m (Memᴰ.tail i) = members_below n ms (right (ltb k.0 n) (gates_below n ms) t) m i

some_member : (ms : List (ℕ × ℕ)) → 1 ≤ length ms → (m : ℕ × ℕ) × (m ∈ ms)
some_member [] h = absurd (omega arith)
some_member (m ∷ ms) h = (m, Memᴰ.head refl)

members_named : (bytes : List ℕ) (n : ℕ) (ms : List (ℕ × ℕ)) → members_of bytes n ≡ Some ms → ((m : ℕ × ℕ) × (m ∈ ms)) × ((m : ℕ × ℕ) → m ∈ ms → m.0 < n)
members_named bytes n ms e =
    let all = members_in bytes in
    let p = passed (within 1 most_members (length (members_in bytes)) && (gates_below n (members_in bytes) && gates_differ (members_in bytes))) (members_in bytes) ms e in
    let w = left (within 1 most_members (length (members_in bytes))) _ p.0 in
    let b = left (gates_below n (members_in bytes)) (gates_differ (members_in bytes)) (right (within 1 most_members (length (members_in bytes))) _ p.0) in
    subst (λ (ks : List (ℕ × ℕ)). ((m : ℕ × ℕ) × (m ∈ ks)) × ((m : ℕ × ℕ) → m ∈ ks → m.0 < n)) p.1
    (some_member all (leb→le 1 (length all) (left (leb 1 (length all)) (leb (length all) most_members) w)), members_below n all b)

total_named : (bytes : List ℕ) (n low high : ℕ) (o : Option (List (ℕ × ℕ))) → members_of bytes n ≡ o → (r : Law) → with_members low high o ≡ Some r → NamesBelow n r
total_named bytes n low high None is r e = absurd (none_some e)
total_named bytes n low high (Some ms) is r e =
    let same : total low high ms ≡ r = cc in
    subst (NamesBelow n) same (members_named bytes n ms is)

rule_named : (k : RuleKind) (bytes : List ℕ) (n : ℕ) (r : Law) → rule_in k bytes n ≡ Some r → NamesBelow n r
rule_named Offset bytes n r e = linked bytes n offset (λ x y c h. h) (link_in bytes n) refl r e
rule_named NotAbove bytes n r e = linked bytes n not_above (λ x y c h. h) (link_in bytes n) refl r e
rule_named Near bytes n r e =
    let p = passed (eqb (length bytes) 3 && two_gates n (get_or bytes 0 0) (get_or bytes 1 0)) (near (get_or bytes 0 0) (get_or bytes 1 0) (get_or bytes 2 0)) r e in
    subst (NamesBelow n) p.1 (gates_named n (get_or bytes 0 0) (get_or bytes 1 0) (right (eqb (length bytes) 3) (two_gates n (get_or bytes 0 0) (get_or bytes 1 0)) p.0))
rule_named Total bytes n r e = go (leb 8 (length bytes) && leb (quad_at bytes 0) (quad_at bytes 4)) e
  where
    go : (b : Bool) → cond b (with_members (quad_at bytes 0) (quad_at bytes 4) (members_of (drop 8 bytes) n)) None ≡ Some r → NamesBelow n r
    go true f = total_named (drop 8 bytes) n (quad_at bytes 0) (quad_at bytes 4) (members_of (drop 8 bytes) n) refl r f
    go false f = absurd (none_some f)

one_of : {X : Type 0} (r : X) (xs ys : List X) → r ∈ (xs ++ ys) → (r ∈ xs) ⊎ (r ∈ ys)
one_of r [] ys i = inr i
one_of r (x ∷ xs) ys (Memᴰ.head e) = inl (Memᴰ.head e)
one_of r (x ∷ xs) ys (Memᴰ.tail i) = ⊎_elim {C = (r ∈ (x ∷ xs)) ⊎ (r ∈ ys)} (λ (j : r ∈ xs). inl (Memᴰ.tail j)) (λ (j : r ∈ ys). inr j) (one_of r xs ys i)

some_named : (n : ℕ) (o : Option Law) → ((r : Law) → o ≡ Some r → NamesBelow n r) → (r : Law) → r ∈ option_to_list o → NamesBelow n r
some_named n None f r i = absurd (Memᴰ.not-nil i)
some_named n (Some x) f r (Memᴰ.head e) = f r (ap Some (sym e))
some_named n (Some x) f r (Memᴰ.tail i) = absurd (Memᴰ.not-nil i)

field_named : (n : ℕ) (k : PlanKind) (bytes : List ℕ) (r : Law) → r ∈ rules_by k bytes n → NamesBelow n r
field_named n Head bytes r i = absurd (Memᴰ.not-nil i)
field_named n Positions bytes r i = absurd (Memᴰ.not-nil i)
field_named n (Rule k) bytes r i = some_named n (rule_in k bytes n) (rule_named k bytes n) r i
field_named n End bytes r i = absurd (Memᴰ.not-nil i)

fields_named : (n : ℕ) (ps : List Field) (r : Law) → r ∈ flat_map (rule_by n) ps → NamesBelow n r
fields_named n [] r i = absurd (Memᴰ.not-nil i)
fields_named n (p ∷ ps) r i = go (one_of r (rule_by n p) (flat_map (rule_by n) ps) i) (fields_named n ps r)
  where
    go : (r ∈ rule_by n p) ⊎ (r ∈ flat_map (rule_by n) ps) → (r ∈ flat_map (rule_by n) ps → NamesBelow n r) → NamesBelow n r
    go (inl j) rest = field_named n p.kind p.bytes r j
    go (inr j) rest = rest j

load_named : (ps : List Field) → WellNamed (load_in ps).plan
unfolding load_in
load_named ps r i = fields_named (size_in ps).gates ps r i

-- a field lies within its text
kind_bytes : (made : Result PlanKind Refusal) (at : ℕ) (bytes : List ℕ) (p : Field) → with_kind made at bytes ≡ Ok p → p.bytes ≡ bytes
kind_bytes (Ok k) at bytes p e = cc
kind_bytes (Err why) at bytes p e = absurd (differ (sym e))

-- its payload is there
payload_left : (missing : Bool) (made : Result PlanKind Refusal) (at : ℕ) (bytes : List ℕ) (p : Field) → with_kind (cond missing (Err Truncated) made) at bytes ≡ Ok p → missing ≡ false
payload_left true made at bytes p e = absurd (differ (sym e))
payload_left false made at bytes p e = refl

by_prefix : (text : List ℕ) (at : ℕ) (o : Option (ℕ × ℕ)) → o ≡ prefix_at text at → (p : Field) → with_prefix plan_kind text at o ≡ Ok p → at + 3 + length p.bytes ≤ length text
by_prefix text at None is p e = absurd (differ (sym e))
by_prefix text at (Some pre) is p e =
    let three = leb→le (at + 3) (length text) (passed (leb (at + 3) (length text)) _ pre (sym is)).0 in
    let left = length text - (at + 3) in
    let there = ltb-false left pre.1 (payload_left (ltb left pre.1) (plan_kind pre.0 pre.1) at _ p e) in
    let bytes = ap length (kind_bytes (with_payload plan_kind pre.0 pre.1 left) at _ p e) ∙ length-take pre.1 (drop (at + 3) text) in
    omega arith

field_inside : (text : List ℕ) (at : ℕ) (p : Field) → plan_field text at ≡ Ok p → next_at (Ok p) at ≤ length text
unfolding field_at
field_inside text at p e = by_prefix text at (prefix_at text at) refl p e

load_sound : (p : Plan) → WellNamed (load_of p).plan → SoundLoad (load_of p)
load_sound p named =
    record {
      some_gates = p.some_gates;
      few_gates = p.few_gates;
      some_positions = p.some_positions;
      few_positions = p.few_positions;
      few_rules = let few = p.few_rules in let k = length-map (take p.count p.rules) rule_of in let t = length-take p.count p.rules in omega arith;
      named = named;
      inside = λ g q t. (
        ltb→lt g p.gates (left (ltb g p.gates) _ t),
        ltb→lt q p.width (left (ltb q p.width) _ (right (ltb g p.gates) _ t)),
      );
    }

pub sound : (text : List ℕ) (r : Result Loaded Fault) → seen_plan r ≡ plan_text text → Sound text (seen_plan r)
sound text (Err e) is = tt
sound text (Ok l) is =
    let says = subst (Means text) (sym is) (means_only text).means in (
      load_sound l.plan (subst (λ (x : Load). WellNamed x.plan) (sym says.load) (load_named says.fields)),
      subst (λ (n : ℕ). n ≤ length text) (sym says.read) (field_inside text says.at says.end says.here),
    )

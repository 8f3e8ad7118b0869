-- What a draft holds after one field more.
use Rattle.std.proofs.Common.{◌≡◌, ℕ, ◌+◌, ◌<◌, ◌≤◌, Bool, true, false, cond, not, ◌||◌, T, eqb, ltb, leb, List, [], ◌∷◌, ◌++◌, map, length, get_or, take, drop, set, replicate, Some, None, Option, sym, refl, ap, ◌∙◌, subst, ⊎_elim, append-nil, arith, ltb→lt, length-take-le, get_or-set_other, get_or-set_same}
use lib.ListN.{length-map}
use Rattle.std.specs.List.{range_with_len}
use Rattle.std.specs.Option.{is_none, option_map, option_to_list}
use Rattle.std.proofs.lemmas.List.FromFn.{get_or-map-range_with_len}
use Rattle.std.proofs.lemmas.List.{take_more_set, map_push, get_or-replicate, length-set, length-replicate}
use Rattle.std.proofs.lemmas.Bool.{cases_eq, eq-eqb, ne_eqb}
use Rattle.model.specs.Bounds.{most_gates, most_width, most_rules}
use Rattle.model.specs.Rules.{Rule as Law, rule_of}
use Rattle.model.specs.declared.refusal.Refusal.TheVariants.{Misplaced}
use Rattle.model.specs.declared.rule.Rule.{Rule as Code}
use Rattle.text.specs.declared.head.Head.{Head as Size}
use Rattle.text.specs.declared.kind.PlanKind.{PlanKind}
use Rattle.text.specs.declared.kind.PlanKind.TheVariants.{Head, Positions, Rule, End}
use Rattle.text.specs.declared.kind.RuleKind.{RuleKind}
use Rattle.text.specs.declared.positions.Listing.{Listing}
use Rattle.text.specs.Tests.{when}
use Rattle.text.specs.Payloads.{head_of, rule_in}
use Rattle.text.specs.Ranges.{covered, sound, row_of, listing_of}
use Rattle.plan.specs.declared.draft.Draft.{Draft}
use Rattle.plan.specs.Views.{rules_of}
use Rattle.plan.specs.Plans.{Field, size_by, size_in, lists, lists_by, begins_with, is_listed, chosen, opens, rule_by, rules_by, rules_in, repeated, misplaced_by, unfit_by, full_by, verdict, fault}
use Rattle.plan.specs.Drafts.{Holds}
use Rattle.plan.proofs.Verdicts.{none_some, fault_is}
use Rattle.plan.proofs.Behind.{or_false, longer, size_behind, listed_behind, opens_same, opens_new, rules_behind}

-- ---- what a listing says

pub record Listed (bytes : List ℕ) (n : ℕ) (l : Listing) : Type 0 where
  pub below : l.gate < n
  pub begins : (g : ℕ) → begins_with g bytes ≡ eqb l.gate g
  pub again : (ps : List Field) → repeated ps bytes ≡ is_listed ps l.gate
  pub row : (q : ℕ) → q < most_width → get_or l.row q false ≡ covered (drop 1 bytes) q

row_is : (ranges : List ℕ) (w : ℕ) (row : List Bool) → Some row ≡ row_of ranges w → (q : ℕ) → q < most_width → get_or row q false ≡ covered ranges q
unfolding row_of
row_is ranges w row e q h = go (sound ranges w) e
  where
    go : (b : Bool) → Some row ≡ when b (map (covered ranges) (range_with_len 0 most_width)) → get_or row q false ≡ covered ranges q
    go true f =
        let r : row ≡ map (covered ranges) (range_with_len 0 most_width) = cc in
        ap (λ (xs : List Bool). get_or xs q false) r ∙ get_or-map-range_with_len (covered ranges) 0 most_width q q false h (omega arith)
    go false f = absurd (none_some (sym f))

pub listing_is : (bytes : List ℕ) (n w : ℕ) (l : Listing) → Some l ≡ listing_of bytes n w → Listed bytes n l
listing_is [] n w l e = absurd (none_some (sym e))
listing_is (g ∷ ranges) n w l e = go (ltb g n) (λ t. ltb→lt g n t) (row_of ranges w) refl e
  where
    go : (b : Bool) → (T b → g < n) → (r : Option (List Bool)) → r ≡ row_of ranges w → Some l ≡ cond b (option_map (λ row. record { gate = g; row = row }) r) None → Listed (g ∷ ranges) n l
    go false lt r is f = absurd (none_some (sym f))
    go true lt None is f = absurd (none_some (sym f))
    go true lt (Some row) is f =
        let same : g ≡ l.gate = cc in
        let rows : row ≡ l.row = cc in
        record {
          below = subst (λ (x : ℕ). x < n) same (lt tt);
          begins = λ k. ap (λ (x : ℕ). eqb x k) same;
          again = λ ps. ap (is_listed ps) same;
          row = λ q h. ap (λ (xs : List Bool). get_or xs q false) (sym rows) ∙ row_is ranges w row is q h;
        }

-- ---- a field that lists no positions

module _ (d : Draft) (ps : List Field) (h : Holds d ps) (p : Field) (next : Draft) (quiet : (g : ℕ) → lists g p ≡ false)
    (gates : next.plan.gates ≡ d.plan.gates) (width : next.plan.width ≡ d.plan.width) (listed : next.listed ≡ d.listed) (starts : next.plan.starts ≡ d.plan.starts)
    (room : length next.plan.rules ≡ length d.plan.rules) (rules : rules_of next.plan ≡ rules_in ps ++ rule_by (size_in ps).gates p) where
  unlisted : (g : ℕ) → is_listed (ps ++ (p ∷ [])) g ≡ is_listed ps g
  unlisted g = listed_behind ps p g ∙ (ap (λ (b : Bool). is_listed ps g || b) (quiet g) ∙ or_false (is_listed ps g))

  quiet_held : Holds next (ps ++ (p ∷ []))
  quiet_held = record {
    some = longer ps p;
    gates = gates ∙ (h.gates ∙ ap (λ (x : Size). x.gates) (sym (size_behind ps p h.some)));
    width = width ∙ (h.width ∙ ap (λ (x : Size). x.width) (sym (size_behind ps p h.some)));
    listed = λ g lt. ap (λ (xs : List Bool). get_or xs g false) listed ∙ (h.listed g lt ∙ sym (unlisted g));
    beyond = λ g le. unlisted g ∙ h.beyond g (omega arith);
    rows = ap length starts ∙ h.rows;
    starts = λ g q lt lq. ap (λ (xs : List (List Bool)). get_or (get_or xs g []) q false) starts ∙ (h.starts g q lt lq ∙ sym (opens_same ps p g q (quiet g)));
    room = room ∙ h.room;
    rules = rules ∙ sym (rules_behind ps p h.some);
  }

-- ---- End and Head

module _ (d : Draft) (ps : List Field) (h : Holds d ps) (p : Field) where
  pub end_fits : p.kind ≡ End → fault ps p ≡ None
  end_fits e =
      fault_is ps p false false false h.some (ap (λ (k : PlanKind). misplaced_by ps k p.bytes) e) (ap (λ (k : PlanKind). unfit_by (size_in ps) k p.bytes) e)
      (ap (λ (k : PlanKind). full_by k (length (rules_in ps))) e)

  pub second_head : p.kind ≡ Head → fault ps p ≡ Some Misplaced
  second_head e = fault_is ps p true (unfit_by (size_in ps) p.kind p.bytes) (full_by p.kind (length (rules_in ps))) h.some (ap (λ (k : PlanKind). misplaced_by ps k p.bytes) e) refl refl

-- ---- Positions

module _ (d : Draft) (ps : List Field) (h : Holds d ps) (p : Field) (e : p.kind ≡ Positions) where
  pub listing_fault : (again : Bool) (given : Option Listing) → again ≡ repeated ps p.bytes → given ≡ listing_of p.bytes d.plan.gates d.plan.width
      → fault ps p ≡ verdict again (is_none given) false
  listing_fault again given a b =
      fault_is ps p again (is_none given) false h.some
      (ap (λ (k : PlanKind). misplaced_by ps k p.bytes) e ∙ sym a)
      (ap (λ (k : PlanKind). unfit_by (size_in ps) k p.bytes) e
      ∙ ap is_none (sym (b ∙ (ap (λ (n : ℕ). listing_of p.bytes n d.plan.width) h.gates ∙ ap (listing_of p.bytes (size_in ps).gates) h.width))))
      (ap (λ (k : PlanKind). full_by k (length (rules_in ps))) e)

  module _ (l : Listing) (is : Listed p.bytes d.plan.gates l) (few : d.plan.gates ≤ most_gates) (fresh : repeated ps p.bytes ≡ false) (next : Draft)
      (gates : next.plan.gates ≡ d.plan.gates) (width : next.plan.width ≡ d.plan.width) (count : next.plan.count ≡ d.plan.count) (rules : next.plan.rules ≡ d.plan.rules)
      (many : length d.listed ≡ most_gates) (listed : next.listed ≡ set d.listed l.gate true) (starts : next.plan.starts ≡ set d.plan.starts l.gate l.row) where
    new : is_listed ps l.gate ≡ false
    new = sym (is.again ps) ∙ fresh

    lists_is : (g : ℕ) → lists g p ≡ eqb l.gate g
    lists_is g = ap (λ (k : PlanKind). lists_by k g p.bytes) e ∙ is.begins g

    here : (g : ℕ) → g ≡ l.gate → lists g p ≡ true
    here g same = lists_is g ∙ eq-eqb l.gate g (sym same)

    elsewhere : (g : ℕ) → (g ≡ l.gate → ⊥) → lists g p ≡ false
    elsewhere g other = lists_is g ∙ ne_eqb l.gate g (λ x. other (sym x))

    listed_here : (g : ℕ) → g ≡ l.gate → is_listed (ps ++ (p ∷ [])) g ≡ true
    listed_here g same = listed_behind ps p g ∙ (ap (λ (b : Bool). is_listed ps g || b) (here g same) ∙ go (is_listed ps g))
      where
        go : (b : Bool) → (b || true) ≡ true
        go true = refl
        go false = refl

    listed_elsewhere : (g : ℕ) → (g ≡ l.gate → ⊥) → is_listed (ps ++ (p ∷ [])) g ≡ is_listed ps g
    listed_elsewhere g other = listed_behind ps p g ∙ (ap (λ (b : Bool). is_listed ps g || b) (elsewhere g other) ∙ or_false (is_listed ps g))

    small : l.gate < most_gates
    small = let b = is.below in omega arith

    listed_at : (g : ℕ) → g < most_gates → get_or next.listed g false ≡ is_listed (ps ++ (p ∷ [])) g
    listed_at g lt =
        ap (λ (xs : List Bool). get_or xs g false) listed
        ∙ ⊎_elim
        (λ (same : g ≡ l.gate). ap (λ (j : ℕ). get_or (set d.listed l.gate true) j false) same ∙ (get_or-set_same d.listed l.gate true false (let s = small in omega arith) ∙ sym (listed_here g same)))
        (λ (other : g ≡ l.gate → ⊥). get_or-set_other d.listed l.gate g true false other ∙ (h.listed g lt ∙ sym (listed_elsewhere g other)))
        (cases_eq g l.gate)

    starts_at : (g q : ℕ) → g < most_gates → q < most_width → get_or (get_or next.plan.starts g []) q false ≡ opens (ps ++ (p ∷ [])) g q
    starts_at g q lt lq =
        ap (λ (xs : List (List Bool)). get_or (get_or xs g []) q false) starts
        ∙ ⊎_elim
        (λ (same : g ≡ l.gate).
        ap (λ (j : ℕ). get_or (get_or (set d.plan.starts l.gate l.row) j []) q false) same
        ∙ (ap (λ (xs : List Bool). get_or xs q false) (get_or-set_same d.plan.starts l.gate l.row [] (let s = small in let r = h.rows in omega arith))
        ∙ (is.row q lq ∙ sym (opens_new ps p g q (here g same) (ap (is_listed ps) same ∙ new)))))
        (λ (other : g ≡ l.gate → ⊥).
        ap (λ (xs : List Bool). get_or xs q false) (get_or-set_other d.plan.starts l.gate g l.row [] other)
        ∙ (h.starts g q lt lq ∙ sym (opens_same ps p g q (elsewhere g other))))
        (cases_eq g l.gate)

    same_rules : rules_of next.plan ≡ rules_of d.plan
    same_rules = ap (λ (k : ℕ). map rule_of (take k next.plan.rules)) count ∙ ap (λ (xs : List Code). map rule_of (take d.plan.count xs)) rules

    pub listing_held : Holds next (ps ++ (p ∷ []))
    listing_held = record {
      some = longer ps p;
      gates = gates ∙ (h.gates ∙ ap (λ (x : Size). x.gates) (sym (size_behind ps p h.some)));
      width = width ∙ (h.width ∙ ap (λ (x : Size). x.width) (sym (size_behind ps p h.some)));
      listed = listed_at;
      beyond = λ g le. let b = is.below in listed_elsewhere g (λ x. omega arith) ∙ h.beyond g (omega arith);
      rows = ap length starts ∙ (length-set d.plan.starts l.gate l.row ∙ h.rows);
      starts = starts_at;
      room = ap length rules ∙ h.room;
      rules = same_rules ∙ (h.rules ∙ sym (rules_behind ps p h.some ∙ (ap (λ (k : PlanKind). rules_in ps ++ rules_by k p.bytes (size_in ps).gates) e ∙ append-nil (rules_in ps))));
    }

-- ---- rules

module _ (d : Draft) (ps : List Field) (h : Holds d ps) (p : Field) (kind : RuleKind) (e : p.kind ≡ Rule kind) (few : d.plan.count ≤ most_rules) where
  how_many : length (rules_in ps) ≡ d.plan.count
  how_many =
      ap length (sym h.rules) ∙ (length-map (take d.plan.count d.plan.rules) rule_of ∙ length-take-le d.plan.count d.plan.rules (let r = h.room in omega arith))

  absent_mapped : (given : Option Code) → is_none (option_map rule_of given) ≡ is_none given
  absent_mapped None = refl
  absent_mapped (Some r) = refl

  pub rule_fault : (given : Option Code) (full : Bool) → option_map rule_of given ≡ rule_in kind p.bytes d.plan.gates → full ≡ leb most_rules d.plan.count
      → fault ps p ≡ verdict false (is_none given) full
  rule_fault given full a b =
      fault_is ps p false (is_none given) full h.some
      (ap (λ (k : PlanKind). misplaced_by ps k p.bytes) e)
      (ap (λ (k : PlanKind). unfit_by (size_in ps) k p.bytes) e ∙ (ap is_none (sym (a ∙ ap (rule_in kind p.bytes) h.gates)) ∙ absent_mapped given))
      (ap (λ (k : PlanKind). full_by k (length (rules_in ps))) e ∙ (ap (leb most_rules) how_many ∙ sym b))

  pub rule_held : (rule : Code) (next : Draft) → Some (rule_of rule) ≡ rule_in kind p.bytes d.plan.gates → d.plan.count < most_rules → next.plan.gates ≡ d.plan.gates → next.plan.width ≡ d.plan.width
      → next.listed ≡ d.listed → next.plan.starts ≡ d.plan.starts → next.plan.rules ≡ set d.plan.rules d.plan.count rule → next.plan.count ≡ d.plan.count + 1
      → Holds next (ps ++ (p ∷ []))
  rule_held rule next is lt gates width listed starts rules count =
      quiet_held d ps h p next (λ g. ap (λ (k : PlanKind). lists_by k g p.bytes) e) gates width listed starts (ap length rules ∙ length-set d.plan.rules d.plan.count rule)
      (ap (λ (k : ℕ). map rule_of (take k next.plan.rules)) count
      ∙ (ap (λ (xs : List Code). map rule_of (take (d.plan.count + 1) xs)) rules
      ∙ (ap (map rule_of) (take_more_set d.plan.rules d.plan.count rule (let r = h.room in omega arith))
      ∙ (map_push rule_of (take d.plan.count d.plan.rules) rule
      ∙ (ap (λ (xs : List Law). xs ++ (rule_of rule ∷ [])) h.rules
      ∙ (ap (λ (o : Option Law). rules_in ps ++ option_to_list o) (is ∙ ap (rule_in kind p.bytes) h.gates)
      ∙ sym (ap (λ (k : PlanKind). rules_in ps ++ rules_by k p.bytes (size_in ps).gates) e)))))))

-- ---- the first field

module _ (d : Draft) (p : Field) (size : Size) (e : p.kind ≡ Head) (is : head_of p.bytes ≡ Some size)
    (gates : d.plan.gates ≡ size.gates) (width : d.plan.width ≡ size.width) (listed : d.listed ≡ replicate most_gates false)
    (starts : d.plan.starts ≡ replicate most_gates (replicate most_width true)) (room : length d.plan.rules ≡ most_rules) (count : d.plan.count ≡ 0) where
  size_is : size_in (p ∷ []) ≡ size
  size_is = ap size_by is

  silent : (g : ℕ) → is_listed (p ∷ []) g ≡ false
  silent g = ap (λ (k : PlanKind). lists_by k g p.bytes || false) e

  all_open : (g q : ℕ) → opens (p ∷ []) g q ≡ true
  all_open g q = ap (λ (b : Bool). not b || chosen (p ∷ []) g q) (silent g)

  pub first_held : Holds d (p ∷ [])
  first_held = record {
    some = omega arith;
    gates = gates ∙ ap (λ (x : Size). x.gates) (sym size_is);
    width = width ∙ ap (λ (x : Size). x.width) (sym size_is);
    listed = λ g lt. ap (λ (xs : List Bool). get_or xs g false) listed ∙ (get_or-replicate most_gates g false false lt ∙ sym (silent g));
    beyond = λ g le. silent g;
    rows = ap length starts ∙ length-replicate most_gates (replicate most_width true);
    starts = λ g q lt lq.
        ap (λ (xs : List (List Bool)). get_or (get_or xs g []) q false) starts
        ∙ (ap (λ (xs : List Bool). get_or xs q false) (get_or-replicate most_gates g (replicate most_width true) [] lt) ∙ (get_or-replicate most_width q true false lq ∙ sym (all_open g q)));
    room = room;
    rules = ap (λ (k : ℕ). map rule_of (take k d.plan.rules)) count ∙ sym (ap (λ (k : PlanKind). rules_by k p.bytes (size_in (p ∷ [])).gates ++ []) e);
  }

use Rattle.std.proofs.Common.{◌≡◌, ℕ, ◌||◌, eqb, List, [], ◌∷◌, map, refl, ap, ◌∙◌, rules, tests}
use Rattle.std.proofs.lemmas.Iterator.{YieldsList-from_slice}
use Rattle.std.proofs.lemmas.Iterator.Search.{any_from_yields_List}
use Rattle.std.specs.List.{list_any}
use Rattle.model.specs.Members.{member_of, has_gate}
use Rattle.model.specs.declared.rule.member.Member.{Member}
use Rattle.text.proofs.members.is_member.Goals as goal

has_gate-map : (ms : List Member) (g : ℕ) → list_any (λ m. eqb m.gate g) ms ≡ has_gate (map member_of ms) g
has_gate-map [] g = refl
has_gate-map (m ∷ ms) g = ap (λ t. eqb m.gate g || t) (has_gate-map ms g)

pub returns : goal.returns
returns c =
    any_from_yields_List (λ m. eqb m.gate c.args.gate) _ _ _ c.any.ensures.ran (YieldsList-from_slice c.args.members.now cc) (λ x b q k. search (rules, tests))
    ∙ has_gate-map c.args.members.now c.args.gate

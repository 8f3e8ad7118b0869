-- A plan that has taken some of the fields.
use Rattle.std.specs.Prelude.{◌≡◌, ℕ, ◌+◌, ◌<◌, ◌≤◌, Bool, true, false, cond, List, [], ◌∷◌, ◌++◌, length, Some, None, Ok, Err, Option, Result, slice_index_or}
use Rattle.model.specs.Bounds.{most_gates, most_width, most_rules}
use Rattle.model.specs.declared.refusal.Refusal.TheVariants.{Misplaced, OutOfRange, TooManyRules}
use Rattle.text.specs.declared.fault.Fault.{Fault}
use Rattle.text.specs.Fields.{refused}
use Rattle.plan.specs.declared.draft.Draft.{Draft}
use Rattle.plan.specs.declared.read.Loaded.{Loaded}
use Rattle.plan.specs.Views.{rules_of, load_of}
use Rattle.plan.specs.Plans.{Field, is_end, size_in, is_listed, opens, rules_in, fault, Reading, read_from, plan_text}

-- what a field gave, or its fault: the first of misplaced, unfit, too many rules
abbrev pub judged : {X : Type 0} → ℕ → Bool → Option X → Bool → Result X Fault
judged place true x full = refused Misplaced place
judged place false None full = refused OutOfRange place
judged place false (Some x) true = refused TooManyRules place
judged place false (Some x) false = Ok x

-- the draft has taken these fields, and no other
pub record Holds (d : Draft) (ps : List Field) : Type 0 where
  pub some : 0 < length ps
  pub gates : d.plan.gates ≡ (size_in ps).gates
  pub width : d.plan.width ≡ (size_in ps).width
  pub listed : (g : ℕ) → g < most_gates → slice_index_or d.listed g false ≡ is_listed ps g
  pub beyond : (g : ℕ) → d.plan.gates ≤ g → is_listed ps g ≡ false
  pub rows : length d.plan.starts ≡ most_gates
  pub starts : (g q : ℕ) → g < most_gates → q < most_width → slice_index_or (slice_index_or d.plan.starts g []) q false ≡ opens ps g q
  pub room : length d.plan.rules ≡ most_rules
  pub rules : rules_of d.plan ≡ rules_in ps

-- the fields with one more: End adds nothing
abbrev pub with_field : List Field → Field → List Field
with_field ps p = cond (is_end p.kind) ps (ps ++ (p ∷ []))

-- one field more: nothing is wrong with it, and the draft has it; or its fault
abbrev pub Took : Draft → List Field → Field → Result Unit Fault → Type 0
Took d ps p (Ok u) = (fault ps p ≡ None) × Holds d (with_field ps p)
Took d ps p (Err e) = (fault ps p ≡ Some e.refusal) × (e.place ≡ p.place)

-- the same for whichever fields the draft held before
abbrev pub Takes : Draft → Draft → Field → Result Unit Fault → Type 0
Takes old new p r = (ps : List Field) → Holds old ps → Took new ps p r

-- where a reading stands: the fields that the draft has, and that what follows decides what the text says
pub record Underway (text : List ℕ) (at : ℕ) (d : Draft) : Type 0 where
  pub fields : List Field
  pub turns : ℕ
  pub held : Holds d fields
  pub enough : length text ≤ turns + at
  pub same : read_from turns text at fields ≡ plan_text text

-- the first field: the reading is under way, or the text has its first fault there
abbrev pub Begun : List ℕ → ℕ → Result Draft Fault → Type 0
Begun text at (Ok d) = Underway text at d
Begun text at (Err e) = Err e ≡ plan_text text

-- the answer that a value of the code stands for
abbrev pub seen_plan : Result Loaded Fault → Result Reading Fault
seen_plan (Ok l) = Ok (record { load = load_of l.plan; read = l.read })
seen_plan (Err e) = Err e

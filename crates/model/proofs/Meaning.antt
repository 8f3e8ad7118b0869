-- What a planner means is a ledger, with the ledgers that its open saves would bring back.
use Rattle.std.proofs.Common.{◌≡◌, ℕ, zero, suc, ◌<◌, ◌≤◌, Bool, true, false, cond, not, ◌&&◌, ◌||◌, T, eqb, ltb, List, [], ◌∷◌, ◌++◌, length, take, drop, None, Option, sym, refl, ap, ◌∙◌, subst, ap₂, ⊎_elim, le_refl, arith, eqb→eq, ltb→lt, lt→ltb, length-append, take-append-drop}
use mathlib.Core.Path.{fun_ext}
use mathlib.Core.Bool.{or_assoc}
use lib.Seq.{take-append-le, take-length}
use Rattle.model.specs.Families.{Family, has}
use Rattle.model.specs.Rules.{Rule}
use Rattle.model.specs.Plans.{Load}
use Rattle.model.specs.Calls.{Call, narrow, save, restore, note, settle, ask}
use Rattle.model.specs.Ledgers.{Ledger, opened, Entered, ascending, changes_of}
use Rattle.model.specs.Planners.{Save, Planner, open_beside, changed, Once, unless, refusal, GoneIs, NotesAre, Shrunk, Saved, Restored, Noted, Done, Loaded}
use Rattle.model.specs.declared.refusal.Refusal.{Refusal}
use Rattle.model.specs.declared.refusal.Refusal.TheVariants.{NoReader}
use Rattle.model.specs.Bounds.{readers}
use Rattle.model.proofs.Tests.{is_true, either_way, or_else, one_of}

-- a ledger, and the ledgers that the open saves hold, newest first
pub record Track : Type 0 where
  pub now : Ledger
  pub held : List Ledger

abbrev pub Move : List Rule → Call → Track → Track → Type 0
Move rules (narrow c) t u = Entered rules (narrow c) t.now u.now × (u.held ≡ t.held)
Move rules save t u = (u.now ≡ t.now) × (u.held ≡ t.now ∷ t.held)
Move rules restore t u = t.held ≡ u.now ∷ u.held
Move rules (note r) t u = Entered rules (note r) t.now u.now × (u.held ≡ t.held)
Move rules settle t u = Entered rules settle t.now u.now × (u.held ≡ t.held)
Move rules (ask q) t u = Entered rules (ask q) t.now u.now × (u.held ≡ t.held)

-- the gone lists as long as they were at a mark
abbrev cut : (ℕ → ℕ) → (ℕ → List ℕ) → ℕ → List ℕ
cut mark gone g = take (mark g) (gone g)

-- (what a reader above 3 would have noted at the load never changes)
abbrev noted_of : Load → (ℕ → List ℕ) → (ℕ → ℕ → ℕ) → ℕ → Family
noted_of load gone notes r = cond (ltb r readers) (open_beside load.plan (cut (notes r) gone)) load.start

abbrev ledger_of : Load → (ℕ → List ℕ) → (ℕ → ℕ → ℕ) → Ledger
ledger_of load gone notes = record { domains = open_beside load.plan gone; noted = noted_of load gone notes }

abbrev held_of : Load → (ℕ → List ℕ) → List Save → List Ledger
held_of load gone [] = []
held_of load gone (v ∷ vs) = ledger_of load (cut v.mark gone) v.notes ∷ held_of load (cut v.mark gone) vs

abbrev pub track : Load → Planner → Track
track load s = record { now = ledger_of load s.gone s.notes; held = held_of load s.gone s.saves }

module _ (load : Load) where
  -- equal at every gate of the plan
  abbrev Alike : {A : Type 0} → (ℕ → A) → (ℕ → A) → Type 0
  Alike a b = (g : ℕ) → g < load.plan.gates → a g ≡ b g

  alike_back : {A : Type 0} (a b : ℕ → A) → Alike a b → Alike b a
  alike_back a b h g l = sym (h g l)

  open_alike : (a b : ℕ → List ℕ) → Alike a b → open_beside load.plan a ≡ open_beside load.plan b
  open_alike a b h = fun_ext (λ g. fun_ext (λ p. go g p (ltb g load.plan.gates) (λ t. h g (ltb→lt g load.plan.gates t))))
    where
      go : (g p : ℕ) (c : Bool) → (T c → a g ≡ b g)
          → (c && (ltb p load.plan.width && not (has (a g) p))) ≡ (c && (ltb p load.plan.width && not (has (b g) p)))
      go g p true e = ap (λ (xs : List ℕ). ltb p load.plan.width && not (has xs p)) (e tt)
      go g p false e = refl

  cut_alike : (m n : ℕ → ℕ) (a b : ℕ → List ℕ) → Alike m n → Alike a b → Alike (cut m a) (cut n b)
  cut_alike m n a b h k g l = ap₂ {C = List ℕ} (λ (x : ℕ) (xs : List ℕ). take x xs) (h g l) (k g l)

  cut_all : (mark : ℕ → ℕ) (gone : ℕ → List ℕ) → Alike mark (λ g. length (gone g)) → Alike (cut mark gone) gone
  cut_all mark gone h g l = ap (λ (k : ℕ). take k (gone g)) (h g l) ∙ take-length (gone g)

  ledger_alike : (a b : ℕ → List ℕ) (m n : ℕ → ℕ → ℕ) → Alike a b → NotesAre load.plan m n → ledger_of load a m ≡ ledger_of load b n
  ledger_alike a b m n h k = λ i. record { domains = open_alike a b h i; noted = noted i }
    where
      go : (r : ℕ) (c : Bool) → (T c → r < readers) → cond c (open_beside load.plan (cut (m r) a)) load.start ≡ cond c (open_beside load.plan (cut (n r) b)) load.start
      go r true f = open_alike (cut (m r) a) (cut (n r) b) (cut_alike (m r) (n r) a b (λ g l. k r g (f tt) l) h)
      go r false f = refl

      noted : noted_of load a m ≡ noted_of load b n
      noted = fun_ext (λ r. go r (ltb r readers) (λ t. ltb→lt r readers t))

  held_alike : (a b : ℕ → List ℕ) (vs : List Save) → Alike a b → held_of load a vs ≡ held_of load b vs
  held_alike a b [] h = refl
  held_alike a b (v ∷ vs) h =
      let c = cut_alike v.mark v.mark a b (λ g l. refl) h in
      ap₂ {C = List Ledger} (λ (x : Ledger) (xs : List Ledger). x ∷ xs)
      (ledger_alike (cut v.mark a) (cut v.mark b) v.notes v.notes c (λ r g l k. refl)) (held_alike (cut v.mark a) (cut v.mark b) vs c)

  -- no mark and no note is past the end of its gone list
  abbrev Short : (ℕ → ℕ) → (ℕ → List ℕ) → Type 0
  Short mark gone = (g : ℕ) → g < load.plan.gates → mark g ≤ length (gone g)

  abbrev NotesShort : (ℕ → ℕ → ℕ) → (ℕ → List ℕ) → Type 0
  NotesShort notes gone = (r : ℕ) → r < readers → Short (notes r) gone

  abbrev Chain : (ℕ → List ℕ) → List Save → Type 0
  Chain gone [] = Unit {0}
  Chain gone (v ∷ vs) = Short v.mark gone × NotesShort v.notes (cut v.mark gone) × Chain (cut v.mark gone) vs

  short_alike : (m n : ℕ → ℕ) (a b : ℕ → List ℕ) → Alike m n → Alike a b → Short m a → Short n b
  short_alike m n a b h k s g l = let x = h g l in let y = ap length (k g l) in let z = s g l in omega arith

  notes_alike : (m n : ℕ → ℕ → ℕ) (a b : ℕ → List ℕ) → NotesAre load.plan m n → Alike a b → NotesShort m a → NotesShort n b
  notes_alike m n a b h k s r lr = short_alike (m r) (n r) a b (λ g l. h r g lr l) k (s r lr)

  chain_alike : (a b : ℕ → List ℕ) (vs : List Save) → Alike a b → Chain a vs → Chain b vs
  chain_alike a b [] h c = tt
  chain_alike a b (v ∷ vs) h c =
      let k = cut_alike v.mark v.mark a b (λ g l. refl) h in (
        short_alike v.mark v.mark a b (λ g l. refl) h c.0,
        notes_alike v.notes v.notes (cut v.mark a) (cut v.mark b) (λ r g l j. refl) k c.1,
        chain_alike (cut v.mark a) (cut v.mark b) vs k c.2,
      )

  -- gone lists that only grew
  abbrev Grown : (ℕ → List ℕ) → (ℕ → List ℕ) → Type 0
  Grown old new = (g : ℕ) → g < load.plan.gates → (more : List ℕ) × (new g ≡ old g ++ more)

  cut_grown : (mark : ℕ → ℕ) (old new : ℕ → List ℕ) → Short mark old → Grown old new → Alike (cut mark new) (cut mark old)
  cut_grown mark old new h grown g l =
      ap (λ (x : List ℕ). take (mark g) x) (grown g l).1 ∙ take-append-le (mark g) (old g) (grown g l).0 (h g l)

  short_grown : (mark : ℕ → ℕ) (old new : ℕ → List ℕ) → Short mark old → Grown old new → Short mark new
  short_grown mark old new h grown g l =
      let a = h g l in
      let b = ap length (grown g l).1 ∙ length-append (old g) (grown g l).0 in
      omega arith

  chain_grown : (old new : ℕ → List ℕ) (vs : List Save) → Grown old new → Chain old vs → Chain new vs
  chain_grown old new [] grown c = tt
  chain_grown old new (v ∷ vs) grown c =
      let k = alike_back (cut v.mark new) (cut v.mark old) (cut_grown v.mark old new c.0 grown) in (
        short_grown v.mark old new c.0 grown,
        notes_alike v.notes v.notes (cut v.mark old) (cut v.mark new) (λ r g l j. refl) k c.1,
        chain_alike (cut v.mark old) (cut v.mark new) vs k c.2,
      )

  held_grown : (old new : ℕ → List ℕ) (vs : List Save) → Grown old new → Chain old vs → held_of load new vs ≡ held_of load old vs
  held_grown old new [] grown c = refl
  held_grown old new (v ∷ vs) grown c =
      let k = cut_grown v.mark old new c.0 grown in
      ap₂ {C = List Ledger} (λ (x : Ledger) (xs : List Ledger). x ∷ xs)
      (ledger_alike (cut v.mark new) (cut v.mark old) v.notes v.notes k (λ r g l j. refl)) (held_alike (cut v.mark new) (cut v.mark old) vs k)

  pub record Kept (s : Planner) : Type 0 where
    pub short : NotesShort s.notes s.gone
    pub chain : Chain s.gone s.saves
    pub once : (g : ℕ) → g < load.plan.gates → Once (s.gone g)

  noted_grown : (s e : Planner) → Kept s → Grown s.gone e.gone → NotesAre load.plan e.notes s.notes → (track load e).now.noted ≡ (track load s).now.noted
  noted_grown s e kept grown same = fun_ext (λ r. go r (ltb r readers) (λ t. ltb→lt r readers t))
    where
      go : (r : ℕ) (c : Bool) → (T c → r < readers)
          → cond c (open_beside load.plan (cut (e.notes r) e.gone)) load.start ≡ cond c (open_beside load.plan (cut (s.notes r) s.gone)) load.start
      go r true f =
          open_alike (cut (e.notes r) e.gone) (cut (s.notes r) e.gone) (cut_alike (e.notes r) (s.notes r) e.gone e.gone (λ g l. same r g (f tt) l) (λ g l. refl))
          ∙ open_alike (cut (s.notes r) e.gone) (cut (s.notes r) s.gone) (cut_grown (s.notes r) s.gone e.gone (kept.short r (f tt)) grown)
      go r false f = refl

  module _ (s e : Planner) (Left : Family → Type 0) (kept : Kept s) (done : Shrunk load.plan s e Left) where
    shrunk_held : (track load e).held ≡ (track load s).held
    shrunk_held =
        ap {B = List Ledger} (held_of load e.gone) done.saves_stay
        ∙ held_grown s.gone e.gone s.saves done.grows kept.chain

    shrunk_kept : Kept e
    shrunk_kept =
        record {
          short = notes_alike s.notes e.notes e.gone e.gone (λ r g l j. sym (done.notes_stay r g l j)) (λ g l. refl)
              (λ r lr. short_grown (s.notes r) s.gone e.gone (kept.short r lr) done.grows);
          chain = subst (λ (vs : List Save). Chain e.gone vs) (sym done.saves_stay)
              (chain_grown s.gone e.gone s.saves done.grows kept.chain);
          once = done.once;
        }

-- a part of a list that has each number once
has_take : (k : ℕ) (xs : List ℕ) (p : ℕ) → T (has (take k xs) p) → T (has xs p)
has_take zero xs p h = absurd h
has_take (suc k) [] p h = h
has_take (suc k) (x ∷ xs) p h = either_way (eqb p x) (has (take k xs) p) (has xs p) (λ t. has_take k xs p t) h

take_once : (k : ℕ) (xs : List ℕ) → Once xs → Once (take k xs)
take_once zero xs h = tt
take_once (suc k) [] h = h
take_once (suc k) (x ∷ xs) h = (λ t. h.0 (has_take k xs x t), take_once k xs h.1)

-- a call moves what the planner means
module _ (load : Load) (s e : Planner) (kept : Kept load s) where
  once_alike : (a : ℕ → List ℕ) → GoneIs load.plan e a → ((g : ℕ) → g < load.plan.gates → Once (a g)) → (g : ℕ) → g < load.plan.gates → Once (e.gone g)
  once_alike a h o g l = subst Once (sym (h g l)) (o g l)

  saved : Saved load.plan s e → Move load.plan.rules save (track load s) (track load e) × Kept load e
  saved done =
      let v = done.new in
      let back = alike_back load e.gone s.gone done.gone_stay in
      let marked : Alike load (cut v.mark e.gone) s.gone =
      λ g l. cut_alike load v.mark v.mark e.gone s.gone (λ k j. refl) done.gone_stay g l ∙ cut_all load v.mark s.gone done.lengths g l in
      let still = alike_back load (cut v.mark e.gone) s.gone marked in (
        (
          ledger_alike load e.gone s.gone e.notes s.notes done.gone_stay done.notes_stay,
          ap {B = List Ledger} (held_of load e.gone) done.one_more
              ∙ ap₂ {C = List Ledger} (λ (x : Ledger) (xs : List Ledger). x ∷ xs)
              (ledger_alike load (cut v.mark e.gone) s.gone v.notes s.notes marked done.notes_held)
              (held_alike load (cut v.mark e.gone) s.gone s.saves marked),
        ),
        record {
          short = notes_alike load s.notes e.notes s.gone e.gone (λ r g l j. sym (done.notes_stay r g l j)) back kept.short;
          chain = subst (λ (vs : List Save). Chain load e.gone vs) (sym done.one_more) (
            (λ g l. let x = done.lengths g l in let y = ap length (done.gone_stay g l) in omega arith),
            notes_alike load s.notes v.notes s.gone (cut v.mark e.gone) (λ r g l j. sym (done.notes_held r g l j)) still kept.short,
            chain_alike load s.gone (cut v.mark e.gone) s.saves still kept.chain,
          );
          once = once_alike s.gone done.gone_stay kept.once;
        },
      )

  restored : Restored load.plan s e → Move load.plan.rules restore (track load s) (track load e) × Kept load e
  restored done =
      let v = done.newest in
      let chain = subst (λ (x : List Save). Chain load s.gone x) done.one_less kept.chain in
      let back = alike_back load e.gone (cut v.mark s.gone) done.gone_cut in (
        ap {B = List Ledger} (held_of load s.gone) done.one_less
            ∙ ap₂ {C = List Ledger} (λ (x : Ledger) (xs : List Ledger). x ∷ xs)
            (sym (ledger_alike load e.gone (cut v.mark s.gone) e.notes v.notes done.gone_cut done.notes_back))
            (held_alike load (cut v.mark s.gone) e.gone e.saves back),
        record {
          short = notes_alike load v.notes e.notes (cut v.mark s.gone) e.gone (λ r g l j. sym (done.notes_back r g l j)) back chain.1;
          chain = chain_alike load (cut v.mark s.gone) e.gone e.saves back chain.2;
          once = once_alike (cut v.mark s.gone) done.gone_cut (λ g l. take_once (v.mark g) (s.gone g) (kept.once g l));
        },
      )

  module _ (notes : ℕ → ℕ → ℕ) (short : NotesShort load notes s.gone) (done : Noted load.plan s e notes) where
    noted_held : (track load e).held ≡ (track load s).held
    noted_held = ap {B = List Ledger} (held_of load e.gone) done.saves_stay ∙ held_alike load e.gone s.gone s.saves done.gone_stay

    noted_kept : Kept load e
    noted_kept =
        let back = alike_back load e.gone s.gone done.gone_stay in
        record {
          short = notes_alike load notes e.notes s.gone e.gone (λ r g l j. sym (done.notes_now r g l j)) back short;
          chain = subst (λ (vs : List Save). Chain load e.gone vs) (sym done.saves_stay) (chain_alike load s.gone e.gone s.saves back kept.chain);
          once = once_alike s.gone done.gone_stay kept.once;
        }

    noted_now : (track load e).now ≡ ledger_of load s.gone notes
    noted_now = ledger_alike load e.gone s.gone e.notes notes done.gone_stay done.notes_now

-- a note's reader is below 4, since the call was accepted
abbrev InReach : Call → Type 0
InReach (narrow c) = Unit {0}
InReach save = Unit {0}
InReach restore = Unit {0}
InReach (note r) = r < readers
InReach settle = Unit {0}
InReach (ask q) = Unit {0}

pub passed : (b : Bool) (k : Refusal) (next : Option Refusal) → unless b k next ≡ None → T b
passed true k next e = tt
passed false k next e = let z : ◌≡◌ {A = ℕ} 0 1 = cc in absurd (omega arith)

in_reach : (load : Load) (s : Planner) (c : Call) → refusal load.plan s c ≡ None → InReach c
in_reach load s (narrow c) e = tt
in_reach load s save e = tt
in_reach load s restore e = tt
in_reach load s (note r) e = ltb→lt r readers (passed (ltb r readers) NoReader None e)
in_reach load s settle e = tt
in_reach load s (ask q) e = tt

new_notes : (load : Load) (s : Planner) (r : ℕ) → r < readers
    → noted_of load s.gone (λ k g. cond (eqb k r) (length (s.gone g)) (s.notes k g))
    ≡ λ k. cond (eqb k r) (open_beside load.plan s.gone) (noted_of load s.gone s.notes k)
new_notes load s r l = fun_ext (λ k. go k (eqb k r) (λ t. eqb→eq k r t) (ltb k readers) (λ x. lt→ltb k readers x))
  where
    go : (k : ℕ) (b : Bool) → (T b → k ≡ r) → (c : Bool) → (k < readers → T c)
        → cond c (open_beside load.plan (cut (λ g. cond b (length (s.gone g)) (s.notes k g)) s.gone)) load.start
        ≡ cond b (open_beside load.plan s.gone) (cond c (open_beside load.plan (cut (s.notes k) s.gone)) load.start)
    go k true e true f = open_alike load (cut (λ g. length (s.gone g)) s.gone) s.gone (cut_all load (λ g. length (s.gone g)) s.gone (λ g j. refl))
    go k true e false f = absurd (f (subst (λ (x : ℕ). x < readers) (sym (e tt)) l))
    go k false e true f = refl
    go k false e false f = refl

pub moves : (load : Load) (c : Call) (s e : Planner) → Kept load s → refusal load.plan s c ≡ None → Done load.plan c s e
    → Move load.plan.rules c (track load s) (track load e) × Kept load e
moves load (narrow c) s e kept ok done =
    let n = noted_grown load s e kept done.grows done.notes_stay in
    ((λ i. record { domains = done.left i; noted = n i }, shrunk_held load s e _ kept done), shrunk_kept load s e _ kept done)
moves load settle s e kept ok done =
    let n = noted_grown load s e kept done.grows done.notes_stay in
    (((done.left, n), shrunk_held load s e _ kept done), shrunk_kept load s e _ kept done)
moves load save s e kept ok done = saved load s e kept done
moves load restore s e kept ok done = restored load s e kept done
moves load (note r) s e kept ok done =
    let notes : ℕ → ℕ → ℕ = λ k g. cond (eqb k r) (length (s.gone g)) (s.notes k g) in
    let n = new_notes load s r (in_reach load s (note r) ok) in (
      (
        noted_now load s e kept notes short done ∙ λ i. record { domains = open_beside load.plan s.gone; noted = n i },
        noted_held load s e kept notes short done,
      ),
      noted_kept load s e kept notes short done,
    )
  where
    at_most : (k g : ℕ) (b : Bool) → s.notes k g ≤ length (s.gone g) → cond b (length (s.gone g)) (s.notes k g) ≤ length (s.gone g)
    at_most k g true h = le_refl (length (s.gone g))
    at_most k g false h = h

    short : NotesShort load (λ k g. cond (eqb k r) (length (s.gone g)) (s.notes k g)) s.gone
    short k lk g l = at_most k g (eqb k r) (kept.short k lk g l)
moves load (ask q) s e kept ok done =
    ((noted_now load s e kept s.notes kept.short done, noted_held load s e kept s.notes kept.short done), noted_kept load s e kept s.notes kept.short done)

-- a planner just loaded
pub loaded_kept : (load : Load) (s : Planner) → Loaded load s → Kept load s
loaded_kept load s l =
    record {
      short = λ r lr g lg. let x = l.noted r g lr lg in omega arith;
      chain = subst (λ (vs : List Save). Chain load s.gone vs) (sym l.closed) tt;
      once = l.once;
    }

pub loaded_held : (load : Load) (s : Planner) → Loaded load s → (track load s).held ≡ []
loaded_held load s l = ap {B = List Ledger} (held_of load s.gone) l.closed

pub loaded_now : (load : Load) (s : Planner) → Loaded load s → (track load s).now ≡ opened load
loaded_now load s l = λ i. record { domains = l.starts i; noted = fun_ext (λ r. go r (ltb r readers) (λ t. ltb→lt r readers t)) i }
  where
    go : (r : ℕ) (c : Bool) → (T c → r < readers) → cond c (open_beside load.plan (cut (s.notes r) s.gone)) load.start ≡ load.start
    go r true f = open_alike load (cut (s.notes r) s.gone) s.gone (cut_all load (s.notes r) s.gone (λ g lg. l.noted r g (f tt) lg)) ∙ l.starts
    go r false f = refl

-- what is gone since the note is the noted set less the domain
pub has_append : (xs ys : List ℕ) (p : ℕ) → has (xs ++ ys) p ≡ (has xs p || has ys p)
has_append [] ys p = refl
has_append (x ∷ xs) ys p = ap (λ (b : Bool). eqb p x || b) (has_append xs ys p) ∙ sym (or_assoc (eqb p x) (has xs p) (has ys p))

has_drop : (k : ℕ) (xs : List ℕ) (p : ℕ) → T (has (drop k xs) p) → T (has xs p)
has_drop zero xs p h = h
has_drop (suc k) [] p h = h
has_drop (suc k) (x ∷ xs) p h = or_else (eqb p x) (has xs p) (has_drop k xs p h)

parts_apart : (k : ℕ) (xs : List ℕ) (p : ℕ) → Once xs → T (has (take k xs) p) → T (has (drop k xs) p) → ⊥
parts_apart zero xs p o a b = a
parts_apart (suc k) [] p o a b = a
parts_apart (suc k) (x ∷ xs) p o a b =
    ⊎_elim
    (λ (t : T (eqb p x)). o.0 (subst (λ (q : ℕ). T (has xs q)) (eqb→eq p x t) (has_drop k xs p b)))
    (λ (t : T (has (take k xs) p)). parts_apart k xs p o.1 t b)
    (one_of (eqb p x) (has (take k xs) p) a)

less : (t d : Bool) → (T t → T d → ⊥) → d ≡ (not t && not (not (t || d)))
less true true h = absurd (h tt tt)
less true false h = refl
less false true h = refl
less false false h = refl

pub ascending_agree : (w : ℕ) (a b : ℕ → Bool) → ((p : ℕ) → p < w → a p ≡ b p) → ascending w a ≡ ascending w b
ascending_agree zero a b h = refl
ascending_agree (suc w) a b h =
    ap₂ {C = List ℕ} (λ (xs : List ℕ) (t : Bool). xs ++ cond t (w ∷ []) []) (ascending_agree w a b (λ p l. h p (omega arith))) (h w (omega arith))

pub changes_agree : (load : Load) (e : Planner) → Kept load e → (r g : ℕ) → r < readers → g < load.plan.gates → changed load.plan e r g ≡ changes_of load.plan.width (track load e).now r g
changes_agree load e kept r g lr l =
    ascending_agree load.plan.width (has (drop (e.notes r g) (e.gone g))) (λ p. (track load e).now.noted r g p && not ((track load e).now.domains g p)) same
  where
    same : (p : ℕ) → p < load.plan.width
        → has (drop (e.notes r g) (e.gone g)) p
        ≡ ((track load e).now.noted r g p && not ((track load e).now.domains g p))
    same p h =
        let k = e.notes r g in
        let xs = e.gone g in
        let all : has xs p ≡ (has (take k xs) p || has (drop k xs) p) =
        ap (λ (ys : List ℕ). has ys p) (sym (take-append-drop k xs)) ∙ has_append (take k xs) (drop k xs) p in
        let gate = is_true (ltb g load.plan.gates) (lt→ltb g load.plan.gates l) in
        let reader = is_true (ltb r readers) (lt→ltb r readers lr) in
        let place = is_true (ltb p load.plan.width) (lt→ltb p load.plan.width h) in
        rw (reader, gate, place, all) (less (has (take k xs) p) (has (drop k xs) p) (parts_apart k xs p (kept.once g l)))

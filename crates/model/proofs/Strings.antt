-- Strings of calls: what stands of them is what the ledger is fed.
use Rattle.std.proofs.Common.{◌≡◌, ℕ, List, [], ◌∷◌, ◌++◌, Some, None, sym, refl, ap, ◌∙◌, subst, arith}
use Rattle.model.specs.Rules.{Rule}
use Rattle.model.specs.declared.refusal.Refusal.{Refusal}
use Rattle.model.specs.Plans.{Plan, Load}
use Rattle.model.specs.Calls.{Call, narrow, save, restore, note, settle, ask, Plain, Closed, empty, plain, pair, Stands, end, taken_back, stays}
use Rattle.model.specs.Ledgers.{Ledger, Entered, Fed}
use Rattle.model.specs.Planners.{Planner, refusal, Done, Runs, stops, accepts, refuses}
use Rattle.model.specs.Statements.{OneLedger, StringsStand, StringsEndAsTheLedger}
use Rattle.model.proofs.Settling.{one_largest}
use Rattle.model.proofs.Pairs.{Form, whole, wants, form}
use Rattle.model.proofs.Meaning.{Track, Move, track, Kept, moves, loaded_kept, loaded_held, loaded_now, changes_agree}

abbrev pub Goes : List Rule → List Call → Track → Track → Type 0
Goes rules [] t u = u ≡ t
Goes rules (c ∷ cs) t u = (m : Track) × Move rules c t m × Goes rules cs m u

pub goes : {load : Load} {s e : Planner} {calls accepted : List Call} → Runs load.plan s calls accepted e → Kept load s
    → Goes load.plan.rules accepted (track load s) (track load e) × Kept load e
goes stops kept = (refl, kept)
goes {load} (accepts {s = s} {m = m} {c = c} ok done rest) kept =
    let one = moves load c s m kept ok done in
    let more = goes rest one.1 in
    ((track load m, one.0, more.0), more.1)
goes (refuses k no' rest) kept = goes rest kept

part : (rules : List Rule) (xs ys : List Call) (t u : Track) → Goes rules (xs ++ ys) t u → (m : Track) × Goes rules xs t m × Goes rules ys m u
part rules [] ys t u h = (t, refl, h)
part rules (x ∷ xs) ys t u (m, one, h) = let r = part rules xs ys m u h in (r.0, (m, one, r.1), r.2)

plain_held : (rules : List Rule) (c : Call) (t u : Track) → Plain c → Move rules c t u → u.held ≡ t.held
plain_held rules (narrow c) t u p h = h.1
plain_held rules save t u p h = absurd (p.0 refl)
plain_held rules restore t u p h = absurd (p.1 refl)
plain_held rules (note r) t u p h = h.1
plain_held rules settle t u p h = h.1
plain_held rules (ask q) t u p h = h.1

-- a save, what brings the saves back to what they were, and a restore leave the track as it was
returned : (rules : List Rule) (t m k v : Track) → Move rules save t m → k.held ≡ m.held → Move rules restore k v → v ≡ t
returned rules t m k v s h r = λ i. record { now = now i; held = held i }
  where
    now : v.now ≡ t.now
    now = let a = s.1 in cc

    held : v.held ≡ t.held
    held = let a = s.1 in cc

closed_held : {cs : List Call} (rules : List Rule) → Closed cs → (t u : Track) → Goes rules cs t u → u.held ≡ t.held
closed_held rules empty t u h = ap (λ (x : Track). x.held) h
closed_held rules (plain {c = c} p j) t u (m, one, h) = closed_held rules j m u h ∙ plain_held rules c t m p one
closed_held rules (pair {inner = inner} {after = after} i j) t u (m, one, h) =
    let a = part rules inner (restore ∷ after) m u h in
    let b = a.2 in
    let e = returned rules t m a.0 b.0 one (closed_held rules i m a.0 a.1) b.1 in
    closed_held rules j b.0 u b.2 ∙ ap (λ (x : Track). x.held) e

stays_entered : (rules : List Rule) (c : Call) (t u : Track) → (c ≡ restore → ⊥) → Move rules c t u → Entered rules c t.now u.now
stays_entered rules (narrow c) t u p h = h.0
stays_entered rules save t u p h = h.0
stays_entered rules restore t u p h = absurd (p refl)
stays_entered rules (note r) t u p h = h.0
stays_entered rules settle t u p h = h.0
stays_entered rules (ask q) t u p h = h.0

pub fed : {cs standing : List Call} (rules : List Rule) → Stands cs standing → (t u : Track) → Goes rules cs t u → Fed rules standing t.now u.now
fed rules end t u h = ap (λ (x : Track). x.now) h
fed {standing = standing} rules (taken_back {inner = inner} {after = after} i j) t u (m, one, h) =
    let a = part rules inner (restore ∷ after) m u h in
    let b = a.2 in
    let e = returned rules t m a.0 b.0 one (closed_held rules i m a.0 a.1) b.1 in
    fed rules j t u (subst (λ (x : Track). Goes rules after x u) e b.2)
fed rules (stays {c = c} p j) t u (m, one, h) = (m.now, stays_entered rules c t m p one, fed rules j m u h)

pub as_the_ledger : StringsEndAsTheLedger
as_the_ledger load s e calls accepted standing l runs st =
    let g = goes runs (loaded_kept load s l) in
    record {
      ledger = (track load e).now;
      fed = subst (λ (x : Ledger). Fed load.plan.rules standing x (track load e).now) (loaded_now load s l) (fed load.plan.rules st (track load s) (track load e) g.0);
      domains_agree = refl;
      changes_agree = changes_agree load e g.1;
    }

-- no restore wants a save
no_save : (x : Ledger) (xs ys : List Ledger) → ys ≡ [] → ys ≡ x ∷ xs → ⊥
no_save x xs ys p q = let z : ◌≡◌ {A = ℕ} 0 1 = cc in omega arith

pub strings_stand : StringsStand
strings_stand load s e calls accepted l runs = go (form accepted) (goes runs (loaded_kept load s l)).0
  where
    go : {cs : List Call} → Form cs → Goes load.plan.rules cs (track load s) (track load e) → (standing : List Call) × Stands cs standing
    go (whole {s = standing} h) g = (standing, h)
    go (wants {inner = inner} {after = after} h f) g =
        let a = part load.plan.rules inner (restore ∷ after) (track load s) (track load e) g in
        let same = closed_held load.plan.rules h (track load s) a.0 a.1 ∙ loaded_held load s l in
        absurd (no_save a.2.0.now a.2.0.held a.0.held same a.2.1)

-- a ledger is decided by what it is fed
one_entered : (rules : List Rule) (c : Call) (l m k : Ledger) → Entered rules c l m → Entered rules c l k → m ≡ k
one_entered rules (narrow c) l m k x y = x ∙ sym y
one_entered rules save l m k x y = x ∙ sym y
one_entered rules restore l m k x y = x ∙ sym y
one_entered rules (note r) l m k x y = x ∙ sym y
one_entered rules settle l m k x y =
    let d = one_largest rules l.domains m.domains k.domains x.0 y.0 in
    let n = x.1 ∙ sym y.1 in
    λ i. record { domains = d i; noted = n i }
one_entered rules (ask q) l m k x y = x ∙ sym y

pub one_ledger : OneLedger
one_ledger rules [] l m k x y = x ∙ sym y
one_ledger rules (c ∷ cs) l m k (a, one, x) (b, two, y) =
    one_ledger rules cs a m k x (subst (λ (z : Ledger). Fed rules cs z k) (sym (one_entered rules c l a b one two)) y)

-- a string, and one call more
pub then_accepts : {plan : Plan} {s m e : Planner} {calls accepted : List Call} (c : Call) → Runs plan s calls accepted m
    → refusal plan m c ≡ None → Done plan c m e → Runs plan s (calls ++ (c ∷ [])) (accepted ++ (c ∷ [])) e
then_accepts c stops ok done = accepts ok done stops
then_accepts c (accepts a d rest) ok done = accepts a d (then_accepts c rest ok done)
then_accepts c (refuses k r rest) ok done = refuses k r (then_accepts c rest ok done)

pub then_refuses : {plan : Plan} {s e : Planner} {calls accepted : List Call} (c : Call) (k : Refusal) → Runs plan s calls accepted e
    → refusal plan e c ≡ Some k → Runs plan s (calls ++ (c ∷ [])) accepted e
then_refuses c k stops no' = refuses k no' stops
then_refuses c k (accepts a d rest) no' = accepts a d (then_refuses c k rest no')
then_refuses c k (refuses j r rest) no' = refuses j r (then_refuses c k rest no')

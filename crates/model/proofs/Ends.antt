-- Where strings end: which settings are permitted, and that two strings meet.
use Rattle.std.proofs.Common.{◌≡◌, ℕ, ◌<◌, ◌&&◌, T, eqb, ltb, List, [], ◌∷◌, ◌++◌, None, sym, refl, ap, ◌∙◌, subst, arith, eqb→eq, ltb→lt}
use mathlib.Core.List.Memᴰ
use lib.Dec.{eqb_refl}
use Rattle.model.specs.Families.{Family, Inside, has, ◌∈◌}
use Rattle.model.specs.Rules.{Rule}
use Rattle.model.specs.Settled.{Settled}
use Rattle.model.specs.declared.refusal.Refusal.TheVariants.{NoGate, NoPosition}
use Rattle.model.specs.Plans.{Plan, Load}
use Rattle.model.specs.Settings.{at, Permitted, First}
use Rattle.model.specs.Calls.{Narrowing, strike, bind, keep, Call, narrow, save, restore, note, settle, ask, leaves, Obeys, Stands, SettleBehind}
use Rattle.model.specs.Ledgers.{Ledger, opened, Entered, Fed}
use Rattle.model.specs.Planners.{Planner, domains_of, unless, refusal, all_below, Runs, stops, accepts, refuses, Loaded}
use Rattle.model.specs.Statements.{AsTheLedger, Meant, StringsPermit, StringsMeet, StringsEnd, Ended, Met}
use Rattle.model.proofs.Tests.{both, left, right, given, taken, denied, denies, eqb_of, families_agree}
use Rattle.model.proofs.Settling.{alone, alone_at, alone_is, alone_inside, alone_settled}
use Rattle.model.proofs.Firsts.{one_first, firsts_agree}
use Rattle.model.proofs.Pairs.{stood}
use Rattle.model.proofs.Meaning.{passed}
use Rattle.model.proofs.Strings.{as_the_ledger, strings_stand}

same_narrowing : (c d : Narrowing) → narrow c ≡ narrow d → c ≡ d
same_narrowing c d e = cc

-- every strike, bind and keep of the string leaves the position
abbrev Allowed : List Call → ℕ → ℕ → Type 0
Allowed cs g p = (c : Narrowing) → narrow c ∈ cs → T (leaves c g p)

-- a call takes out what it does not leave, and nothing comes back
entered_below : (rules : List Rule) (c : Call) (l m : Ledger) → Entered rules c l m → (g p : ℕ) → T (m.domains g p)
    → T (l.domains g p) × ((n : Narrowing) → narrow n ≡ c → T (leaves n g p))
entered_below rules (narrow c) l m h g p t =
    let u = subst (λ (x : Ledger). T (x.domains g p)) h t in (
      left (l.domains g p) (leaves c g p) u,
      λ n e. subst (λ (x : Narrowing). T (leaves x g p)) (sym (same_narrowing n c e)) (right (l.domains g p) (leaves c g p) u),
    )
entered_below rules save l m h g p t =
    (subst (λ (x : Ledger). T (x.domains g p)) h t, λ n e. let z : ◌≡◌ {A = ℕ} 0 1 = cc in absurd (omega arith))
entered_below rules restore l m h g p t =
    (subst (λ (x : Ledger). T (x.domains g p)) h t, λ n e. let z : ◌≡◌ {A = ℕ} 0 1 = cc in absurd (omega arith))
entered_below rules (note r) l m h g p t =
    (subst (λ (x : Ledger). T (x.domains g p)) h t, λ n e. let z : ◌≡◌ {A = ℕ} 0 1 = cc in absurd (omega arith))
entered_below rules settle l m h g p t =
    (h.0.inside g p t, λ n e. let z : ◌≡◌ {A = ℕ} 0 1 = cc in absurd (omega arith))
entered_below rules (ask q) l m h g p t =
    (subst (λ (x : Ledger). T (x.domains g p)) h t, λ n e. let z : ◌≡◌ {A = ℕ} 0 1 = cc in absurd (omega arith))

more_allowed : (c : Call) (cs : List Call) (g p : ℕ) → ((n : Narrowing) → narrow n ≡ c → T (leaves n g p)) → Allowed cs g p → Allowed (c ∷ cs) g p
more_allowed c cs g p one rest n (Memᴰ.head e) = one n e
more_allowed c cs g p one rest n (Memᴰ.tail i) = rest n i

fed_below : (rules : List Rule) (cs : List Call) (l m : Ledger) → Fed rules cs l m → (g p : ℕ) → T (m.domains g p) → T (l.domains g p) × Allowed cs g p
fed_below rules [] l m h g p t = (subst (λ (x : Ledger). T (x.domains g p)) h t, λ n i. absurd (Memᴰ.not-nil i))
fed_below rules (c ∷ cs) l m (k, one, h) g p t =
    let a = fed_below rules cs k m h g p t in
    let b = entered_below rules c l k one g p a.0 in
    (b.0, more_allowed c cs g p b.1 a.1)

-- a settled family that the calls leave whole is never lost
module _ (rules : List Rule) (f : Family) (settled : Settled rules f) where
  entered_above : (c : Call) (l m : Ledger) → Entered rules c l m → ((n : Narrowing) → narrow n ≡ c → (g p : ℕ) → T (f g p) → T (leaves n g p))
      → Inside f l.domains → Inside f m.domains
  entered_above (narrow c) l m h ok inside g p t =
      subst (λ (x : Ledger). T (x.domains g p)) (sym h) (both (l.domains g p) (leaves c g p) (inside g p t) (ok c refl g p t))
  entered_above save l m h ok inside g p t = subst (λ (x : Ledger). T (x.domains g p)) (sym h) (inside g p t)
  entered_above restore l m h ok inside g p t = subst (λ (x : Ledger). T (x.domains g p)) (sym h) (inside g p t)
  entered_above (note r) l m h ok inside g p t = subst (λ (x : Ledger). T (x.domains g p)) (sym h) (inside g p t)
  entered_above settle l m h ok inside g p t = h.0.contains f inside settled g p t
  entered_above (ask q) l m h ok inside g p t = subst (λ (x : Ledger). T (x.domains g p)) (sym h) (inside g p t)

  fed_above : (cs : List Call) (l m : Ledger) → Fed rules cs l m → ((g p : ℕ) → T (f g p) → Allowed cs g p)
      → Inside f l.domains → Inside f m.domains
  fed_above [] l m h ok inside = λ g p t. subst (λ (x : Ledger). T (x.domains g p)) (sym h) (inside g p t)
  fed_above (c ∷ cs) l m (k, one, h) ok inside =
      fed_above cs k m h (λ g p t n i. ok g p t n (Memᴰ.tail i))
      (entered_above c l k one (λ n e g p t. ok g p t n (Memᴰ.head e)) inside)

-- behind a settle with no strike, bind or keep after it the domains are settled
entered_settled : (rules : List Rule) (c : Call) (l m : Ledger) → Entered rules c l m → ((n : Narrowing) → narrow n ≡ c → ⊥)
    → Settled rules l.domains → Settled rules m.domains
entered_settled rules (narrow c) l m h no' s = absurd (no' c refl)
entered_settled rules save l m h no' s = subst (λ (x : Ledger). Settled rules x.domains) (sym h) s
entered_settled rules restore l m h no' s = subst (λ (x : Ledger). Settled rules x.domains) (sym h) s
entered_settled rules (note r) l m h no' s = subst (λ (x : Ledger). Settled rules x.domains) (sym h) s
entered_settled rules settle l m h no' s = h.0.settled
entered_settled rules (ask q) l m h no' s = subst (λ (x : Ledger). Settled rules x.domains) (sym h) s

fed_settled : (rules : List Rule) (cs : List Call) (l m : Ledger) → Fed rules cs l m → ((n : Narrowing) → narrow n ∈ cs → ⊥)
    → Settled rules l.domains → Settled rules m.domains
fed_settled rules [] l m h no' s = subst (λ (x : Ledger). Settled rules x.domains) (sym h) s
fed_settled rules (c ∷ cs) l m (k, one, h) no' s =
    fed_settled rules cs k m h (λ n i. no' n (Memᴰ.tail i)) (entered_settled rules c l k one (λ n e. no' n (Memᴰ.head e)) s)

fed_part : (rules : List Rule) (xs ys : List Call) (l m : Ledger) → Fed rules (xs ++ ys) l m → (k : Ledger) × Fed rules xs l k × Fed rules ys k m
fed_part rules [] ys l m h = (l, refl, h)
fed_part rules (x ∷ xs) ys l m (k, one, h) = let r = fed_part rules xs ys k m h in (r.0, (k, one, r.1), r.2)

behind_settled : (rules : List Rule) (cs : List Call) (l m : Ledger) → Fed rules cs l m → SettleBehind cs → Settled rules m.domains
behind_settled rules cs l m h b =
    let a = fed_part rules b.first (settle ∷ b.last) l m (subst (λ (x : List Call). Fed rules x l m) b.so h) in
    let s = a.2 in
    fed_settled rules b.last s.0 m s.2 b.none_after s.1.0.settled

-- two ledgers, fed from the same domains the same strikes, binds and keeps, with a settle behind them
meet_inside : (rules : List Rule) (start : Ledger) (cs ds : List Call) (l m : Ledger) → Fed rules cs start l → Fed rules ds start m
    → ((c : Narrowing) → narrow c ∈ ds → narrow c ∈ cs) → SettleBehind cs → Inside l.domains m.domains
meet_inside rules start cs ds l m h k same b =
    fed_above rules l.domains (behind_settled rules cs start l h b) ds start m k
    (λ g p t n i. (fed_below rules cs start l h g p t).1 n (same n i))
    (λ g p t. (fed_below rules cs start l h g p t).0)

-- the gate of an accepted strike, bind or keep is one of the plan's
gate_of : Narrowing → ℕ
gate_of (strike g p) = g
gate_of (bind g p) = g
gate_of (keep g ps) = g

gate_below : (plan : Plan) (s : Planner) (c : Narrowing) → refusal plan s (narrow c) ≡ None → gate_of c < plan.gates
unfolding gate_of
gate_below plan s (strike g p) e = ltb→lt g plan.gates (passed (ltb g plan.gates) NoGate (unless (ltb p plan.width) NoPosition None) e)
gate_below plan s (bind g p) e = ltb→lt g plan.gates (passed (ltb g plan.gates) NoGate (unless (ltb p plan.width) NoPosition None) e)
gate_below plan s (keep g ps) e = ltb→lt g plan.gates (passed (ltb g plan.gates) NoGate (unless (all_below plan.width ps) NoPosition None) e)

run_below : {plan : Plan} {s e : Planner} {calls accepted : List Call} → Runs plan s calls accepted e → (c : Narrowing) → narrow c ∈ accepted → gate_of c < plan.gates
run_below stops c i = absurd (Memᴰ.not-nil i)
run_below {plan} (accepts {s = s} ok done rest) c (Memᴰ.head e) =
    gate_below plan s c (subst (λ (d : Call). refusal plan s d ≡ None) (sym e) ok)
run_below (accepts ok done rest) c (Memᴰ.tail i) = run_below rest c i
run_below (refuses k no' rest) c i = run_below rest c i

-- a setting obeys exactly what leaves its positions
obeys_left : (setting : List ℕ) (c : Narrowing) → T (leaves c (gate_of c) (at setting (gate_of c))) → Obeys setting c
unfolding gate_of
obeys_left setting (strike g p) t =
    λ e. denies (eqb g g && eqb (at setting g) p) t (both (eqb g g) (eqb (at setting g) p) (eqb_refl g) (eqb_of (at setting g) p e))
obeys_left setting (bind g p) t = eqb→eq (at setting g) p (taken (eqb g g) (eqb (at setting g) p) t (eqb_refl g))
obeys_left setting (keep g ps) t = taken (eqb g g) (has ps (at setting g)) t (eqb_refl g)

obeyed_left : (setting : List ℕ) (c : Narrowing) → Obeys setting c → (h : ℕ) → T (leaves c h (at setting h))
obeyed_left setting (strike g p) o h =
    denied (eqb h g && eqb (at setting h) p)
    (λ t. o (ap (at setting) (sym (eqb→eq h g (left (eqb h g) (eqb (at setting h) p) t))) ∙ eqb→eq (at setting h) p (right (eqb h g) (eqb (at setting h) p) t)))
obeyed_left setting (bind g p) o h = given (eqb h g) (eqb (at setting h) p) (λ t. eqb_of (at setting h) p (ap (at setting) (eqb→eq h g t) ∙ o))
obeyed_left setting (keep g ps) o h =
    given (eqb h g) (has ps (at setting h)) (λ t. subst (λ (k : ℕ). T (has ps (at setting k))) (sym (eqb→eq h g t)) o)

module _ (load : Load) (s e : Planner) (calls accepted standing : List Call) (l : Loaded load s) (runs : Runs load.plan s calls accepted e) (st : Stands accepted standing) where
  the_ledger : AsTheLedger load standing e
  the_ledger = as_the_ledger load s e calls accepted standing l runs st

  domains_inside : Inside (domains_of load.plan e) the_ledger.ledger.domains
  domains_inside g p t = subst (λ (d : Family). T (d g p)) the_ledger.domains_agree t

  inside_domains : Inside the_ledger.ledger.domains (domains_of load.plan e)
  inside_domains g p t = subst (λ (d : Family). T (d g p)) (sym the_ledger.domains_agree) t

  meant : (setting : List ℕ) → Permitted load.plan (domains_of load.plan e) setting → Meant load standing setting
  meant setting ok =
      record {
        at_the_load = record { whole = ok.whole; within = λ g h. (below g h).0; meets = ok.meets };
        obeys = λ c i. obeys_left setting c ((below (gate_of c) (run_below runs c (stood st (narrow c) i))).1 c i);
      }
    where
      below : (g : ℕ) → g < load.plan.gates → T (load.start g (at setting g)) × Allowed standing g (at setting g)
      below g h =
          fed_below load.plan.rules standing (opened load) the_ledger.ledger the_ledger.fed g (at setting g)
          (domains_inside g (at setting g) (ok.within g h))

  permitted : (setting : List ℕ) → Meant load standing setting → Permitted load.plan (domains_of load.plan e) setting
  permitted setting ok =
      record { whole = ok.at_the_load.whole; within = λ g h. inside g (at setting g) (alone_at load.plan.gates setting g h); meets = ok.at_the_load.meets }
    where
      inside : Inside (alone load.plan.gates setting) (domains_of load.plan e)
      inside g p t =
          inside_domains g p
          (fed_above load.plan.rules (alone load.plan.gates setting)
          (alone_settled load.plan load.start setting l.named ok.at_the_load) standing (opened load) the_ledger.ledger the_ledger.fed
          (λ h q u n i. subst (λ (k : ℕ). T (leaves n h k)) (sym (alone_is load.plan.gates setting h q u)) (obeyed_left setting n (ok.obeys n i) h))
          (alone_inside load.plan load.start setting ok.at_the_load) g p t)

pub strings_permit : StringsPermit
strings_permit load s e calls accepted standing l runs st =
    let there = meant load s e calls accepted standing l runs st in
    let back = permitted load s e calls accepted standing l runs st in
    record {
      settings = λ setting. (there setting, back setting);
      answers = λ answer. (
        firsts_agree (Permitted load.plan (domains_of load.plan e)) (Meant load standing) there back answer,
        firsts_agree (Meant load standing) (Permitted load.plan (domains_of load.plan e)) back there answer,
      );
    }

pub strings_meet : StringsMeet
strings_meet load s e t f calls accepted standing calls' accepted' standing' l runs st l' runs' st' same b b' =
    let one = as_the_ledger load s e calls accepted standing l runs st in
    let two = as_the_ledger load t f calls' accepted' standing' l' runs' st' in
    let there = meet_inside load.plan.rules (opened load) standing standing' one.ledger two.ledger one.fed two.fed (λ c. (same c).1) b in
    let back = meet_inside load.plan.rules (opened load) standing' standing two.ledger one.ledger two.fed one.fed (λ c. (same c).0) b' in
    let agree : domains_of load.plan e ≡ domains_of load.plan f =
    one.domains_agree ∙ (families_agree one.ledger.domains two.ledger.domains there back ∙ sym two.domains_agree) in
    record {
      domains = agree;
      answers = λ x y p q. one_first (Permitted load.plan (domains_of load.plan f)) x y (subst (λ (d : Family). First (Permitted load.plan d) x) agree p) q;
    }

pub strings_end : StringsEnd
strings_end load s e calls accepted l runs =
    let st = strings_stand load s e calls accepted l runs in
    record {
      accepted = accepted;
      runs = runs;
      standing = st.0;
      stands = st.1;
      as_ledger = as_the_ledger load s e calls accepted st.0 l runs st.1;
      permits = strings_permit load s e calls accepted st.0 l runs st.1;
    }

pub met : (load : Load) (s : Planner) (calls : List Call) (e t : Planner) (calls' : List Call) (f : Planner)
    → Loaded load s → Loaded load t → Ended load s calls e → Ended load t calls' f → Met load s calls e t calls' f
met load s calls e t calls' f l l' one two =
    record {
      one = one;
      two = two;
      meeting = strings_meet load s e t f calls one.accepted one.standing calls' two.accepted two.standing
          l one.runs one.stands l' two.runs two.stands;
    }

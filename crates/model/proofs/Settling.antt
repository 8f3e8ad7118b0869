-- The laws of settling.
use Rattle.std.proofs.Common.{◌≡◌, ℕ, ◌+◌, ◌*◌, ◌<◌, ◌≤◌, Bool, true, false, cond, ◌&&◌, T, eqb, ltb, List, [], ◌∷◌, sym, refl, ap, ◌∙◌, subst, ap₂, eqb→eq, ltb→lt, lt→ltb}
use mathlib.Core.List.Memᴰ
use lib.Dec.{eqb_refl}
use Rattle.model.specs.Families.{Family, Inside, ◌∈◌}
use Rattle.model.specs.Rules.{Rule, offset, near, not_above, total, OffsetAdmits, NearAdmits, NotAboveAdmits, shares, Meets}
use Rattle.model.specs.Settled.{Partnered, instead, Balanced, SettledUnder, Settled}
use Rattle.model.specs.Plans.{Plan, NamesBelow, WellNamed}
use Rattle.model.specs.Settings.{at, Permitted}
use Rattle.model.specs.Statements.{OneLargest, SettlingGrows, SettlingRests, SettlingKeepsSettings}
use Rattle.model.proofs.Tests.{both, left, right, families_agree}

pub one_largest : OneLargest
one_largest rules d f e hf he =
    families_agree f e (he.contains f hf.inside hf.settled) (hf.contains e he.inside he.settled)

pub grows : SettlingGrows
grows rules d e f h sub hf hh = hh.contains f (λ g p t. sub g p (hf.inside g p t)) hf.settled

pub rests : SettlingRests
rests rules d f hf = record { inside = λ g p t. t; settled = hf.settled; contains = λ e sub s. sub }

-- the family of one setting: each of the n gates has its position alone
pub alone : ℕ → List ℕ → Family
alone n setting g p = ltb g n && eqb p (at setting g)

pub alone_at : (n : ℕ) (setting : List ℕ) (g : ℕ) → g < n → T (alone n setting g (at setting g))
unfolding alone
alone_at n setting g h = both (ltb g n) (eqb (at setting g) (at setting g)) (lt→ltb g n h) (eqb_refl (at setting g))

pub alone_is : (n : ℕ) (setting : List ℕ) (g p : ℕ) → T (alone n setting g p) → p ≡ at setting g
unfolding alone
alone_is n setting g p t = eqb→eq p (at setting g) (right (ltb g n) (eqb p (at setting g)) t)

pub alone_gate : (n : ℕ) (setting : List ℕ) (g p : ℕ) → T (alone n setting g p) → g < n
unfolding alone
alone_gate n setting g p t = ltb→lt g n (left (ltb g n) (eqb p (at setting g)) t)

pub alone_inside : (plan : Plan) (d : Family) (setting : List ℕ) → Permitted plan d setting → Inside (alone plan.gates setting) d
alone_inside plan d setting ok g p t =
    subst (λ (q : ℕ). T (d g q)) (sym (alone_is plan.gates setting g p t)) (ok.within g (alone_gate plan.gates setting g p t))

alone_partnered : (admits : ℕ → ℕ → Type 0) (n : ℕ) (setting : List ℕ) (x y : ℕ) → x < n → y < n → admits (at setting x) (at setting y) → Partnered admits x y (alone n setting)
alone_partnered admits n setting x y hx hy ok =
    record {
      of_x = λ a t. (at setting y, alone_at n setting y hy, subst (λ (k : ℕ). admits k (at setting y)) (sym (alone_is n setting x a t)) ok);
      of_y = λ b t. (at setting x, alone_at n setting x hx, subst (λ (k : ℕ). admits (at setting x) k) (sym (alone_is n setting y b t)) ok);
    }

-- shares ask only for the members' positions
pub shares_agree : (ms : List (ℕ × ℕ)) (a b : ℕ → ℕ) → ((m : ℕ × ℕ) → m ∈ ms → a m.0 ≡ b m.0) → shares ms a ≡ shares ms b
shares_agree [] a b h = refl
shares_agree (m ∷ ms) a b h =
    ap₂ (λ (x y : ℕ). m.1 * x + y) (h m (Memᴰ.head refl)) (shares_agree ms a b (λ k i. h k (Memᴰ.tail i)))

pub instead_agrees : (a b : ℕ → ℕ) (g p h : ℕ) → p ≡ b g → (a h ≡ b h) → instead a g p h ≡ b h
instead_agrees a b g p h e k = go (eqb h g) (λ t. eqb→eq h g t)
  where
    go : (c : Bool) → (T c → h ≡ g) → cond c p (a h) ≡ b h
    go true f = e ∙ ap b (sym (f tt))
    go false f = k

alone_balanced : (low high : ℕ) (ms : List (ℕ × ℕ)) (n : ℕ) (setting : List ℕ) → ((m : ℕ × ℕ) → m ∈ ms → m.0 < n)
    → (low ≤ shares ms (at setting)) × (shares ms (at setting) ≤ high) → Balanced low high ms (alone n setting)
alone_balanced low high ms n setting names ok =
    record {
      not_over = λ least is m i p t. subst (λ (k : ℕ). k ≤ high) (sym (same least (λ k j. (is k j).0) m p t)) ok.1;
      not_under = λ greatest is m i p t. subst (λ (k : ℕ). low ≤ k) (sym (same greatest (λ k j. (is k j).0) m p t)) ok.0;
      together = λ m k i j p t. (at setting k.0, alone_at n setting k.0 (names k j));
    }
  where
    same : (a : ℕ → ℕ) → ((k : ℕ × ℕ) → k ∈ ms → T (alone n setting k.0 (a k.0))) → (m : ℕ × ℕ) (p : ℕ) → T (alone n setting m.0 p)
        → shares ms (instead a m.0 p) ≡ shares ms (at setting)
    same a is m p t =
        shares_agree ms (instead a m.0 p) (at setting)
        (λ k j. instead_agrees a (at setting) m.0 p k.0 (alone_is n setting m.0 p t) (alone_is n setting k.0 (a k.0) (is k j)))

alone_under : (n : ℕ) (setting : List ℕ) (r : Rule) → NamesBelow n r → Meets (at setting) r → SettledUnder (alone n setting) r
alone_under n setting (offset x y c) names ok = alone_partnered (OffsetAdmits c) n setting x y names.0 names.1 ok
alone_under n setting (near x y d) names ok = alone_partnered (NearAdmits d) n setting x y names.0 names.1 ok
alone_under n setting (not_above x y c) names ok = alone_partnered (NotAboveAdmits c) n setting x y names.0 names.1 ok
alone_under n setting (total low high ms) names ok = alone_balanced low high ms n setting names.1 ok

pub alone_settled : (plan : Plan) (d : Family) (setting : List ℕ) → WellNamed plan → Permitted plan d setting → Settled plan.rules (alone plan.gates setting)
alone_settled plan d setting acc ok r i = alone_under plan.gates setting r (acc r i) (ok.meets r i)

pub keeps_settings : SettlingKeepsSettings
keeps_settings plan d f setting acc big = (
  λ ok. record {
    whole = ok.whole;
    within = λ g h.
        big.contains (alone plan.gates setting) (alone_inside plan d setting ok) (alone_settled plan d setting acc ok) g (at setting g) (alone_at plan.gates setting g h);
    meets = ok.meets;
  },
  λ ok. record { whole = ok.whole; within = λ g h. big.inside g (at setting g) (ok.within g h); meets = ok.meets },
)

-- Saves and restores pair like brackets: what stands of a string is one thing, and is there where no restore wants a save.
use Rattle.std.proofs.Common.{◌≡◌, ℕ, zero, suc, List, [], ◌∷◌, ◌++◌, sym, refl, ap, ◌∙◌, subst, append_assoc, arith}
use mathlib.Core.List.Memᴰ
use Rattle.model.specs.Families.{◌∈◌}
use Rattle.model.specs.Calls.{Call, narrow, save, restore, note, settle, ask, Plain, Closed, empty, plain, pair, Stands, end, taken_back, stays}
use Rattle.model.specs.Statements.{OneStanding}

-- is the call a bracket?
pub data Kind (c : Call) : Type 0 where
  opens : c ≡ save → Kind c
  closes : c ≡ restore → Kind c
  neither : Plain c → Kind c

apart : (c d : Call) → (c ≡ d → ◌≡◌ {A = ℕ} 0 1) → c ≡ d → ⊥
apart c d f e = let z : ◌≡◌ {A = ℕ} 0 1 = f e in omega arith

pub kind : (c : Call) → Kind c
kind (narrow c) = neither (apart (narrow c) save (λ e. cc), apart (narrow c) restore (λ e. cc))
kind save = opens refl
kind restore = closes refl
kind (note r) = neither (apart (note r) save (λ e. cc), apart (note r) restore (λ e. cc))
kind settle = neither (apart settle save (λ e. cc), apart settle restore (λ e. cc))
kind (ask q) = neither (apart (ask q) save (λ e. cc), apart (ask q) restore (λ e. cc))

pub save_is_no_restore : save ≡ restore → ⊥
save_is_no_restore e = apart save restore (λ d. cc) e

-- A string read from its end: how many restores still want a save, and what stands behind the first of them.
next : Call → ℕ → List Call → ℕ × List Call
next save zero s = (0, save ∷ s)
next save (suc k) s = (k, s)
next restore k s = (suc k, s)
next (narrow c) zero s = (0, narrow c ∷ s)
next (narrow c) (suc k) s = (suc k, s)
next (note r) zero s = (0, note r ∷ s)
next (note r) (suc k) s = (suc k, s)
next settle zero s = (0, settle ∷ s)
next settle (suc k) s = (suc k, s)
next (ask q) zero s = (0, ask q ∷ s)
next (ask q) (suc k) s = (suc k, s)

scan : List Call → ℕ × List Call
scan [] = (0, [])
scan (c ∷ cs) = next c (scan cs).0 (scan cs).1

next_stays : (c : Call) (s : List Call) → (c ≡ restore → ⊥) → next c 0 s ≡ (0, c ∷ s)
unfolding next
next_stays save s h = refl
next_stays restore s h = absurd (h refl)
next_stays (narrow c) s h = refl
next_stays (note r) s h = refl
next_stays settle s h = refl
next_stays (ask q) s h = refl

next_plain : (c : Call) (k : ℕ) (s : List Call) → Plain c → next c (suc k) s ≡ (suc k, s)
unfolding next
next_plain save k s h = absurd (h.0 refl)
next_plain restore k s h = absurd (h.1 refl)
next_plain (narrow c) k s h = refl
next_plain (note r) k s h = refl
next_plain settle k s h = refl
next_plain (ask q) k s h = refl

step : (c : Call) (cs : List Call) (x : ℕ × List Call) → scan cs ≡ x → scan (c ∷ cs) ≡ next c x.0 x.1
unfolding scan
step c cs x e = ap {B = ℕ × List Call} (λ (y : ℕ × List Call). next c y.0 y.1) e

scan_closed : {cs : List Call} → Closed cs → (rest : List Call) (k : ℕ) (s : List Call) → scan rest ≡ (suc k, s) → scan (cs ++ rest) ≡ (suc k, s)
unfolding next
scan_closed empty rest k s e = e
scan_closed (plain {c = c} {after = after} p h) rest k s e = step c (after ++ rest) (suc k, s) (scan_closed h rest k s e) ∙ next_plain c k s p
scan_closed (pair {inner = inner} {after = after} h j) rest k s e =
    let back = step restore (after ++ rest) (suc k, s) (scan_closed j rest k s e) in
    let all = scan_closed h (restore ∷ (after ++ rest)) (suc k) s back in
    let same : scan ((inner ++ (restore ∷ after)) ++ rest) ≡ (suc (suc k), s) = rw append_assoc all in
    step save ((inner ++ (restore ∷ after)) ++ rest) (suc (suc k), s) same

scan_stands : {cs s : List Call} → Stands cs s → scan cs ≡ (0, s)
unfolding next scan
scan_stands end = refl
scan_stands (taken_back {inner = inner} {after = after} {standing = s} h j) =
    step save (inner ++ (restore ∷ after)) (1, s) (scan_closed h (restore ∷ after) 0 s (step restore after (0, s) (scan_stands j)))
scan_stands (stays {c = c} {after = after} {standing = s} p j) = step c after (0, s) (scan_stands j) ∙ next_stays c s p

pub one_standing : OneStanding
one_standing cs a b h k = ap {B = List Call} (λ (x : ℕ × List Call). x.1) (sym (scan_stands h) ∙ scan_stands k)

-- A string is one of which some stands, or has behind a closed string a restore that wants a save.
pub data Form : List Call → Type 0 where
  whole : {cs s : List Call} → Stands cs s → Form cs
  wants : {inner after : List Call} → Closed inner → Form after → Form (inner ++ (restore ∷ after))

add_save : {cs : List Call} → Form cs → Form (save ∷ cs)
add_save (whole h) = whole (stays save_is_no_restore h)
add_save (wants {inner = inner} {after = after} h (whole j)) = whole (taken_back h j)
add_save (wants {inner = inner} h (wants {inner = second} {after = after} j f)) =
    subst (λ (cs : List Call). Form (save ∷ cs)) (append_assoc inner (restore ∷ second) (restore ∷ after)) (wants (pair h j) f)

add_plain : {cs : List Call} (c : Call) → Plain c → Form cs → Form (c ∷ cs)
add_plain c p (whole h) = whole (stays p.1 h)
add_plain c p (wants h f) = wants (plain p h) f

pub form : (cs : List Call) → Form cs
form [] = whole end
form (c ∷ cs) = add (kind c) (form cs)
  where
    add : Kind c → Form cs → Form (c ∷ cs)
    add (opens e) f = subst (λ (d : Call). Form (d ∷ cs)) (sym e) (add_save f)
    add (closes e) f = subst (λ (d : Call). Form (d ∷ cs)) (sym e) (wants empty f)
    add (neither p) f = add_plain c p f

-- what stands was accepted
pub stood : {cs s : List Call} → Stands cs s → (c : Call) → c ∈ s → c ∈ cs
stood end c i = i
stood (taken_back {inner = inner} h j) c i = Memᴰ.tail (Memᴰ.append_right inner (Memᴰ.tail (stood j c i)))
stood (stays p j) c (Memᴰ.head e) = Memᴰ.head e
stood (stays p j) c (Memᴰ.tail i) = Memᴰ.tail (stood j c i)

-- What is remembered stays right as the store narrows, saves and restores.
use Rattle.std.proofs.Common.{◌≡◌, ◌≢◌, ℕ, zero, suc, ◌-◌, ◌<◌, ◌≤◌, List, [], ◌∷◌, ◌++◌, length, get_or, take, replicate, Some, None, Option, IfSome, sym, refl, ap, ◌∙◌, subst, ⊎_elim, arith}
use Rattle.std.proofs.Math.Seq.{take-length}
use Rattle.std.proofs.lemmas.List.{take-append-le, get_or-replicate}
use Rattle.std.proofs.lemmas.Bool.{cases_eq}
use Rattle.model.specs.Bounds.{most_gates, most_marks}
use Rattle.store.specs.Meaning.{Meaning, Sound, Marked, changed_at, appended, fresh, saved, cut}
use Rattle.store.proofs.Meanings.{at_same, at_other, same_meaning}
use Rattle.bounds.specs.declared.ends.Ends.{Ends}
use Rattle.bounds.specs.declared.ends.Memory.{Memory}
use Rattle.bounds.specs.declared.ends.Span.{Span}
use Rattle.bounds.specs.Ends.{SpanOf, Covers, SameBut, Right, Held, Remembered}
use Rattle.bounds.proofs.Spans.{Narrowed, covers_still, same_gone, beside}

no_ends : (n i : ℕ) → get_or {A = Option Ends} (replicate n None) i None ≡ None
no_ends zero i = refl
no_ends (suc n) zero = refl
no_ends (suc n) (suc i) = no_ends n i

-- a keeper has no ends for marks that are older than it
pub held_none : (m : Meaning) (ks : List (ℕ → ℕ)) → Held m ks (replicate most_marks None)
held_none m [] = tt
held_none m (k ∷ ks) = (subst (λ o. IfSome o (Right (cut m (k ∷ ks)))) (sym (no_ends most_marks (length ks))) tt, held_none (cut m (k ∷ ks)) ks)

-- all positions are open
pub remembered_reset : (m' : Meaning) (x' : Memory) (c n w : ℕ) → m' ≡ fresh c n w → n ≤ most_gates → 0 < w
    → x'.ends.spans ≡ replicate most_gates (Some (record { lowest = 0; highest = w - 1 })) → Remembered m' x'
remembered_reset m' x' c n w is few some wrote =
    subst (λ (m : Meaning). Remembered m x') (sym is) (record {
      ends = λ g l. subst (SpanOf (fresh c n w) g)
          (sym (ap (λ xs. get_or xs g None) wrote ∙ get_or-replicate most_gates g (Some (record { lowest = 0; highest = w - 1 })) None (omega arith)))
          (record { lowest = (some, refl, λ q b. absurd (omega arith)); highest = (omega arith, refl, λ q a b. absurd (omega arith)) });
      marks = tt;
    })

-- what left after a mark is cut away with it
cut_appended : (m : Meaning) (g : ℕ) (xs : List ℕ) (k : ℕ → ℕ) (ks : List (ℕ → ℕ)) → ((h : ℕ) → k h ≤ length (m.gone h))
    → cut (appended m g xs) (k ∷ ks) ≡ cut m (k ∷ ks)
cut_appended m g xs k ks short =
    same_meaning _ _ refl refl refl
    (λ h. ⊎_elim
    (λ (e : h ≡ g).
    let G : ℕ → Type 0 = λ x. take (k x) (changed_at m.gone g (m.gone g ++ xs) x) ≡ take (k x) (m.gone x) in
    subst G (sym e) (ap (take (k g)) (at_same m.gone g (m.gone g ++ xs)) ∙ take-append-le (k g) (m.gone g) xs (short g)))
    (λ (ne : h ≡ g → ⊥). ap (take (k h)) (at_other m.gone g h (m.gone g ++ xs) ne))
    (cases_eq h g))
    refl

held_appended : (m : Meaning) (g : ℕ) (xs : List ℕ) (ks : List (ℕ → ℕ)) (table : List (Option Ends)) → Marked m.gone ks → Held m ks table → Held (appended m g xs) ks table
held_appended m g xs [] table short h = tt
held_appended m g xs (k ∷ ks) table short h =
    subst (λ (n : Meaning). IfSome (get_or table (length ks) None) (Right n) × Held n ks table) (sym (cut_appended m g xs k ks short)) h

-- a gate has narrowed, and its span is written
module _ (m m' : Meaning) (g : ℕ) (x x' : Memory) (sound : Sound m) (by : Narrowed m g m') where
  written : SpanOf m' g (get_or x'.ends.spans g None) → SameBut g x.ends x'.ends → x'.saved ≡ x.saved → Remembered m x → Remembered m' x'
  written fits others same r = record {
    ends = λ h l. ⊎_elim
        (λ (e : h ≡ g). subst (λ (i : ℕ). SpanOf m' i (get_or x'.ends.spans i None)) (sym e) fits)
        (λ (ne : h ≡ g → ⊥). subst (SpanOf m' h) (sym (others h ne)) (beside m m' g h (get_or x.ends.spans h None) by ne (r.ends h (omega (arith, ap (λ (n : Meaning). n.gates) by.1)))))
        (cases_eq h g);
    marks = subst (Held m' m'.marks) (sym same)
        (subst (λ (n : Meaning). Held n n.marks x.saved) (sym by.1) (held_appended m g by.0 m.marks x.saved sound.marked r.marks));
  }

  pub remembered_written : (s : Option Span) → SpanOf m' g s → get_or x'.ends.spans g None ≡ s → SameBut g x.ends x'.ends → x'.saved ≡ x.saved
      → Remembered m x → Remembered m' x'
  remembered_written s fits wrote others same r = written (subst (SpanOf m' g) (sym wrote) fits) others same r

  pub remembered_narrowed : g < m.gates → (g < m'.gates → Covers m' g (get_or x.ends.spans g None) → SpanOf m' g (get_or x'.ends.spans g None))
      → SameBut g x.ends x'.ends → x'.saved ≡ x.saved → Remembered m x → Remembered m' x'
  remembered_narrowed l found others same r =
      written (found (omega (arith, ap (λ (n : Meaning). n.gates) by.1)) (covers_still m m' g (get_or x.ends.spans g None) by (r.ends g l))) others same r

-- only the places of the marks are looked at
held_below : (m : Meaning) (ks : List (ℕ → ℕ)) (table new : List (Option Ends)) → ((i : ℕ) → i < length ks → get_or new i None ≡ get_or table i None)
    → Held m ks table → Held m ks new
held_below m [] table new same h = tt
held_below m (k ∷ ks) table new same h = (
  subst (λ o. IfSome o (Right (cut m (k ∷ ks)))) (sym (same (length ks) (omega arith))) h.0,
  held_below (cut m (k ∷ ks)) ks table new (λ i l. same i (omega arith)) h.1,
)

pub remembered_saved : (m m' : Meaning) (x x' : Memory) (i : ℕ) → m' ≡ saved m → i ≡ length m.marks → x'.ends ≡ x.ends
    → get_or x'.saved i None ≡ Some x.ends → ((j : ℕ) → j ≢ i → get_or x'.saved j None ≡ get_or x.saved j None) → Remembered m x → Remembered m' x'
remembered_saved m m' x x' i is here ends newest others r =
    let back : cut (saved m) (saved m).marks ≡ m = same_meaning _ _ refl refl refl (λ g. take-length (m.gone g)) refl in
    subst (λ (n : Meaning). Remembered n x') (sym is) (record {
      ends = subst (Right (saved m)) (sym ends) (λ g l. same_gone m (saved m) g (get_or x.ends.spans g None) refl refl (r.ends g l));
      marks = subst (λ (n : Meaning). IfSome (get_or x'.saved (length m.marks) None) (Right n) × Held n m.marks x'.saved) (sym back) (
        subst (λ o. IfSome o (Right m)) (sym (ap (λ (j : ℕ). get_or x'.saved j None) (sym here) ∙ newest)) r.ends,
        held_below m m.marks x.saved x'.saved (λ j l. others j (λ e. omega arith)) r.marks,
      );
    })

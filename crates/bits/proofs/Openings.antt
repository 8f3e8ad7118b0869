-- What a row tells of the open positions of its gate.
use Rattle.std.proofs.Common.{◌≡◌, ℕ, ◌<◌, ◌≤◌, true, false, not, ◌&&◌, ltb, Some, None, Option, sym, ap, ◌∙◌, ⊎_elim, arith}
use Rattle.std.proofs.lemmas.Bool.{cases_lt, lt-ltb, not-true, not-false, and_parts, ltb-true, both_ways}
use Rattle.model.specs.Bounds.{most_width}
use Rattle.model.specs.Families.{has}
use Rattle.store.specs.Meaning.{left}
use Rattle.store.specs.Calls.{Least, Greatest, NextOpen}
use Rattle.store.proofs.Counts.{left_is}
use Rattle.store.proofs.Domains.{open_width, open_has, open_is}
use Rattle.rows.specs.Rows.{lit, Next, Last}
use Rattle.bits.specs.Representation.{gone_in, row_at, count_at}
use Rattle.bits.specs.Meanings.{meaning}
use Rattle.bits.specs.Soundness.{sound}
use Rattle.bits.specs.declared.Bits.{Bits}
use Rattle.bits.proofs.Facts.{on}

-- a bit tells whether the position is open
module _ (s : Bits) (g p : ℕ) (hg : g < s.gates) (hp : p < s.width) where
  pub bit_is : lit (row_at s.domains g) p ≡ not (has (gone_in g (on s)) p)
  bit_is =
      s.tied (g, p, hg, omega (arith, s.fit.1)) ∙ ap (λ b. b && not (has (gone_in g (on s)) p)) (lt-ltb p s.width hp)

  pub open_bit : has (gone_in g (on s)) p ≡ false → lit (row_at s.domains g) p ≡ true
  open_bit o = bit_is ∙ ap not o

  pub bit_open : lit (row_at s.domains g) p ≡ true → has (gone_in g (on s)) p ≡ false
  bit_open e = not-true (has (gone_in g (on s)) p) (sym bit_is ∙ e)

  pub bit_shut : lit (row_at s.domains g) p ≡ false → has (gone_in g (on s)) p ≡ true
  bit_shut e = not-false (has (gone_in g (on s)) p) (sym bit_is ∙ e)

-- how many there are; the lowest, the highest and the next, from the row's answers
module _ (s : Bits) (g : ℕ) (hg : g < s.gates) where
  open_where : (p : ℕ) → p < most_width → lit (row_at s.domains g) p ≡ true → (p < s.width) × (has (gone_in g (on s)) p ≡ false)
  open_where p h e =
      let a = and_parts (ltb p s.width) (not (has (gone_in g (on s)) p)) (sym (s.tied (g, p, hg, h)) ∙ e) in
      (ltb-true p s.width a.0, not-true (has (gone_in g (on s)) p) a.1)

  pub count_is : count_at s.domains g ≡ left (meaning s) g
  count_is = s.counts (g, hg) ∙ sym (left_is (meaning s) (sound s) g hg)

  pub least_is : (o : Option ℕ) → Next (row_at s.domains g) 0 o → Least (meaning s) g o
  least_is None f = λ q h. bit_shut s g q hg h (f q (omega arith) (omega (arith, s.fit.1)))
  least_is (Some p) f =
      let w = open_where p f.1 f.2 in
      (w.0, w.1, λ q h. bit_shut s g q hg (omega (arith, w.0)) (f.3 q (omega arith) h))

  pub greatest_is : (o : Option ℕ) → Last (row_at s.domains g) o → Greatest (meaning s) g o
  greatest_is None f = λ q h. bit_shut s g q hg h (f q (omega arith) (omega (arith, s.fit.1)))
  greatest_is (Some p) f =
      let w = open_where p f.1 f.2 in
      (w.0, w.1, λ q h l. bit_shut s g q hg l (f.3 q h (omega (arith, s.fit.1))))

  pub next_is : (from : ℕ) (o : Option ℕ) → Next (row_at s.domains g) from o → NextOpen (meaning s) g from o
  next_is from None f = λ q l t.
      let hq = open_width (meaning s) g q t in
      both_ways (has (gone_in g (on s)) q) (open_has (meaning s) g q t) (bit_shut s g q hg hq (f q l (omega (arith, s.fit.1))))
  next_is from (Some p) f =
      let w = open_where p f.1 f.2 in (
        f.0,
        open_is (meaning s) g p hg w.0 w.1,
        λ q l t. ⊎_elim {C = p ≤ q}
            (λ (u : q < p). absurd (both_ways (has (gone_in g (on s)) q) (open_has (meaning s) g q t) (bit_shut s g q hg (omega (arith, w.0)) (f.3 q l u))))
            (λ (u : p ≤ q). u)
            (cases_lt q p),
      )

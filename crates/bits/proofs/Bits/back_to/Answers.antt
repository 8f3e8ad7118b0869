use Rattle.std.proofs.Common.{◌≡◌, ◌-◌, ◌≤◌, length, get_or, take, Ok, sym, refl, ap, ◌∙◌, arith, rules}
use Rattle.std.proofs.lemmas.List.{take_all}
use Rattle.model.specs.Bounds.{most_width}
use Rattle.stack.specs.Stacks.{items, room}
use Rattle.bits.specs.Representation.{count_at}
use Rattle.bits.specs.Soundness.{length_marks}
use Rattle.bits.proofs.Restoring.{one_less, undo_top, undo_front, back_gate, back_count, back_kept, restore_kept, restore_means}
use Rattle.bits.proofs.Bits.back_to.Goals as goal

pub loop-self-init : goal.loop-self-init
loop-self-init c =
    let s = c.args.self.now in
    let m = s.marked (s.depth - 1, s.depth - 1, omega arith, omega arith) in (
      refl,
      refl,
      refl,
      refl,
      refl,
      omega (arith, m.1),
      sym (take_all (length (items s.trail)) (items s.trail) (omega arith)),
    )

pub bounds-self-g : goal.bounds-self-g
bounds-self-g c = omega (arith, c.from-g.ensures, back_gate c.loop-self.self (items c.pop.new.self) c.in-Some.r c.in-Some.ensures.0)

pub bounds-self-g-in-Some : goal.bounds-self-g-in-Some
bounds-self-g-in-Some c = omega (arith, c.from-g.ensures, back_gate c.loop-self.self (items c.pop.new.self) c.in-Some.r c.in-Some.ensures.0)

pub overflow_add-domain : goal.overflow_add-domain
overflow_add-domain c =
    let s = c.loop-self.self in
    let e = c.from-g.ensures in
    let b : count_at s.domains c.from-g.result ≤ most_width = rw e (back_count s (items c.pop.new.self) c.in-Some.r c.in-Some.ensures.0) in
    search rules

pub invariant_of-self : goal.invariant_of-self
invariant_of-self c =
    let s = c.loop-self.self in
    let i = c.loop-self.invariant in
    let ys = items c.pop.new.self in
    let r = c.in-Some.r in
    let p = c.in-Some.ensures in
    back_kept s ys r p.0 c.from-g.result c.from-g.ensures (room c.pop.new.self) p.1 c.insert.new.self c.insert.ensures
    (undo_top c.args.self.now s (omega arith) i.2 i.3 (length ys) (omega (arith, c.len.ensures, one_less (items s.trail) ys r p.0)))

pub loop-self-preserved-in-Some : goal.loop-self-preserved-in-Some
loop-self-preserved-in-Some c =
    let xs = items c.loop-self.self.trail in
    let i = c.loop-self.invariant in
    let ys = items c.pop.new.self in
    let r = c.in-Some.r in
    let p = c.in-Some.ensures in
    let l = one_less xs ys r p.0 in
    (i.0, i.1, i.2, i.3, p.1 ∙ i.4, omega (arith, c.len.ensures), undo_front xs ys (items c.args.self.now.trail) r p.0 i.6)

pub invariant_of-self-2 : goal.invariant_of-self-2
invariant_of-self-2 c = restore_kept c.loop-self.self (c.loop-self.self.depth - 1) (omega arith)

pub returns : goal.returns
returns c =
    let e = c.args.self.now in
    let s = c.loop-self.self in
    let i = c.loop-self.invariant in
    let l = length_marks (items e.trail) e.marks e.depth in
    let same : length (items s.trail) ≡ get_or e.marks (e.depth - 1) 0 = omega (arith, c.len.ensures, i.5) in
    record {
      none = λ h. absurd (omega arith);
      done = λ _. (
        ap (λ x. Ok (x - 1)) (i.3 ∙ sym l),
        restore_means e c.requires.marked (room s.trail) i.4 (items s.trail) (i.6 ∙ ap (λ n. take n (items e.trail)) same)
            s.gates s.width s.marks i.0 i.1 i.2 (s.depth - 1) (ap (λ x. x - 1) i.3),
      );
    }

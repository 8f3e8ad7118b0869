use Rattle.std.proofs.Common.{refl, ltb, ap, ◌∙◌, arith}
use Rattle.stack.specs.Stacks.{items, room}
use Rattle.bits.proofs.Facts.{reset_kept}
use Rattle.bits.proofs.as_store.BitsStore.reset.Goals as goal

pub invariant_of-self : goal.invariant_of-self
invariant_of-self c =
    let s = c.args.self.now in
    let t = c.in_ok-check_size.ensures.takes refl in
    reset_kept (room c.clear.new.self) c.args.n c.args.w (items c.clear.new.self) c.below.result s.marks
    c.clear.ensures.items t.few_gates t.few_positions (omega (arith, t.room, c.clear.ensures.room))
    (λ q l. c.below.ensures q l ∙ ap (ltb q) c.from.ensures) s.long.1

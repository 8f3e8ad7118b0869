use Rattle.std.proofs.Common.{sym, refl, arith}
use Rattle.std.proofs.lemmas.Bool.{both_ways}
use Rattle.stack.specs.Stacks.{items, room}
use Rattle.model.specs.Families.{has}
use Rattle.bits.specs.Representation.{gone_in}
use Rattle.bits.proofs.Openings.{bit_open, bit_shut}
use Rattle.bits.proofs.Rooms.{trail_room}
use Rattle.bits.proofs.Strikes.{some_left, strike_kept, strike_means}
use Rattle.bits.proofs.Bits.strike_at.Goals as goal

pub returns-then-not-contains : goal.returns-then-not-contains
returns-then-not-contains c =
    let s = c.args.self.now in
    let o = bit_shut s c.args.g c.args.p c.requires.gate c.requires.position (sym c.if-not-contains.ensures) in
    record {
      gate = λ h. absurd (omega arith);
      position = λ _ h. absurd (omega arith);
      hit = λ _ _ h. absurd (both_ways (has (gone_in c.args.g (items s.trail)) c.args.p) h o);
      miss = λ _ _ _. (refl, refl);
    }

pub overflow_sub-domain : goal.overflow_sub-domain
overflow_sub-domain c =
    let s = c.args.self.now in
    let hg = c.requires.gate in
    let hp = c.requires.position in
    some_left s c.args.g c.args.p hg hp (bit_open s c.args.g c.args.p hg hp (sym c.if-not-contains.ensures))

pub invariant_of-self : goal.invariant_of-self
invariant_of-self c =
    let s = c.args.self.now in
    let g = c.args.g in
    let p = c.args.p in
    let hg = c.requires.gate in
    let hp = c.requires.position in
    let o = bit_open s g p hg hp (sym c.if-not-contains.ensures) in
    let t = c.push.ensures.took (trail_room s g p hg hp o) in
    strike_kept s g p hg hp o (items c.push.new.self) t.1 (room c.push.new.self) c.push.ensures.room c.remove.new.self c.remove.ensures

pub returns : goal.returns
returns c =
    let s = c.args.self.now in
    let g = c.args.g in
    let p = c.args.p in
    let hg = c.requires.gate in
    let hp = c.requires.position in
    let o = bit_open s g p hg hp (sym c.if-not-contains.ensures) in
    let t = c.push.ensures.took (trail_room s g p hg hp o) in
    record {
      gate = λ h. absurd (omega arith);
      position = λ _ h. absurd (omega arith);
      hit = λ _ _ _. (refl, strike_means s g p hg hp o (items c.push.new.self) t.1 (room c.push.new.self) c.push.ensures.room);
      miss = λ _ _ h. absurd (both_ways (has (gone_in g (items s.trail)) p) o h);
    }

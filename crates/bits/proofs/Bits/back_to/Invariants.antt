use Rattle.std.proofs.Common.{◌≡◌, ◌≤◌, length, take}
use Rattle.stack.specs.Stacks.{items, room}
use Rattle.bits.proofs.Bits.back_to.Given as goal

abbrev pub invariant-loop-self : goal.invariant-loop-self
invariant-loop-self l =
    (l.self.gates ≡ l.initial.self.gates) × (l.self.width ≡ l.initial.self.width) × (l.self.marks ≡ l.initial.self.marks) × (l.self.depth ≡ l.initial.self.depth)
    × (room l.self.trail ≡ room l.initial.self.trail) × (l.to ≤ length (items l.self.trail))
    × (items l.self.trail ≡ take (length (items l.self.trail)) (items l.initial.self.trail))

abbrev pub decreases-loop-self : goal.decreases-loop-self
decreases-loop-self l = length (items l.self.trail)

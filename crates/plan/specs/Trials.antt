-- Worked examples of plan texts.
use Rattle.std.specs.Prelude.{◌≡◌, ℕ, List, [], ◌∷◌, ◌++◌, Ok}
use Rattle.model.specs.Trials.{worked}
use Rattle.model.specs.declared.refusal.Refusal.TheVariants.{Truncated, UnknownTag}
use Rattle.text.specs.Fields.{refused}
use Rattle.plan.specs.Plans.{plan_text}

-- Head, Offset, Near, Total and End of the worked example
abbrev pub worked_text : List ℕ
worked_text =
    (0x01 ∷ 0x00 ∷ 0x03 ∷ 0x03 ∷ 0x00 ∷ 0x05 ∷ [])
    ++ ((0x03 ∷ 0x00 ∷ 0x04 ∷ 0x01 ∷ 0x00 ∷ 0x00 ∷ 0x01 ∷ [])
    ++ ((0x04 ∷ 0x00 ∷ 0x03 ∷ 0x01 ∷ 0x02 ∷ 0x01 ∷ [])
    ++ ((0x06 ∷ 0x00 ∷ 0x0e ∷ 0x00 ∷ 0x00 ∷ 0x00 ∷ 0x06 ∷ 0x00 ∷ 0x00 ∷ 0x00 ∷ 0x07 ∷ 0x00 ∷ 0x01 ∷ 0x01 ∷ 0x01 ∷ 0x02 ∷ 0x02 ∷ [])
    ++ (0x07 ∷ 0x00 ∷ 0x00 ∷ []))))

pub record TextTrials : Type 0 where
  pub empty : plan_text [] ≡ refused Truncated 0
  pub whole : plan_text worked_text ≡ Ok (record { load = worked; read = 39 })
  -- what stands behind End is not read
  pub behind : plan_text (worked_text ++ (0x18 ∷ 0x00 ∷ 0x00 ∷ [])) ≡ Ok (record { load = worked; read = 39 })
  -- the first fault is told, at its own place: here a tag that no field of a plan has
  pub unknown : plan_text (0x01 ∷ 0x00 ∷ 0x03 ∷ 0x03 ∷ 0x00 ∷ 0x05 ∷ 0x18 ∷ 0x00 ∷ 0x00 ∷ []) ≡ refused UnknownTag 6

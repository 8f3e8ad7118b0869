use Rattle.console.specs.Lines.{most_input}
use Rattle.std.proofs.Common.{◌+◌}
use Rattle.console.proofs.Reading.{first_bytes}
use Rattle.console.proofs.read_input.Goals as goal

pub returns : goal.returns
returns g c =
    first_bytes g.R.Read.remaining c.args.from c.limited.result (most_input + 1) c.new-input.result.items c.read_to_end.new.buf.items
    c.limited.ensures.inner c.limited.ensures.limit c.new-input.ensures.items c.in_ok-read_to_end.ensures.bytes

-- `ip_read::taking::follow` meets its contract. Assumes nothing.
use mathlib.Core.Path.{sym, ap, ◌∙◌}
use mathlib.Core.List.{[]}
use Rattle.ip.specs.Read.{Got, gives}
use Rattle.ip.specs.Memory.{open_bytes}
use Rattle.ip_read.proofs.taking.follow.Goals as goal

pub keep-requires : goal.keep-requires
keep-requires c =
    let e = c.hand_out-end.ensures.ended in
    e ∙ ap (gives []) (sym (ap (λ (g : Got). g.after) e))

pub returns : goal.returns
returns c =
    let e = c.hand_out-end.ensures in
    record {
      kept = c.keep.ensures ∙ ap (λ (g : Got). open_bytes g.after) e.ended;
      packets = e.memory;
      out = e.out;
    }

-- `capture::main` is safe: the session is opened by the strict rule.
-- Assumes nothing.
use Rattle.std.proofs.Common.{rules}
use Rattle.capture.proofs.Strict.{opened_strictly}
use Rattle.capture.proofs.main.Goals as goal

pub reads-init : goal.reads-init
reads-init c =
    let opened = c.open-owned.ensures in
    (opened_strictly _ opened.opened opened.rule, search rules, search rules)

-- `window::requests` meets its contract: by how many runs there are.
-- Assumes nothing.
use Rattle.window.proofs.Requests.{asked_all, asked_few, asked_none}
use Rattle.window.proofs.asking.requests.Goals as goal

pub returns-then-end-next : goal.returns-then-end-next
returns-then-end-next c =
    let told = asked_none c.args.window.now c.args.buf.now c.if-end-next.true in
    record { answer = told.0; buffer = told.1 }

pub returns-then-buf-runs : goal.returns-then-buf-runs
returns-then-buf-runs c =
    let told = asked_few c.args.window.now c.args.next c.args.end c.args.buf.now c.min-limit.ensures c.count-runs.ensures c.if-buf-runs.true in
    record { answer = told.0; buffer = told.1 }

pub returns : goal.returns
returns c =
    let told = asked_all c.args.window.now c.args.next c.args.end c.args.buf.now c.min-limit.ensures c.count-runs.ensures c.if-buf-runs.false c.requests_from.ensures in
    record { answer = told.0; buffer = told.1 }

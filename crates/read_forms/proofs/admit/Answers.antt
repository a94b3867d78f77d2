-- `read_forms::admit` meets its contract: the ceiling comes first, then the text's length. Assumes nothing.
use Rattle.read_forms.proofs.Admitting.{high_ceiling, long_text}
use Rattle.read_forms.proofs.admit.Goals as goal

pub returns-then-limit-gt256 : goal.returns-then-limit-gt256
returns-then-limit-gt256 c =
    let a = c.args in
    high_ceiling a.limit a.text.now c.if-limit-gt256.true

pub returns-then-text-gt16384 : goal.returns-then-text-gt16384
returns-then-text-gt16384 c =
    let a = c.args in
    long_text a.limit a.text.now c.if-limit-gt256.false c.if-text-gt16384.true

pub returns : goal.returns
returns c = record { ceiling = c.if-limit-gt256.false; short = c.if-text-gt16384.false }

use Rattle.std.proofs.Common.{arith}
use Rattle.std.proofs.lemmas.Grind.{common_steps}
use Rattle.storage.specs.Primary.{number_from}
use Rattle.storage.proofs.NumberKeys.{number_step, number_bounded}
use Rattle.storage.proofs.numbers.record_number.Goals as goal

pub loop-b-preserved : goal.loop-b-preserved
loop-b-preserved c = grind (arith, common_steps, number_step)

pub returns-clause-value : goal.returns-clause-value
unfolding number_from
returns-clause-value c = grind (arith, common_steps)

pub returns-clause-four : goal.returns-clause-four
unfolding number_from
returns-clause-four c long =
    let below = number_bounded c.args.key.now long (λ i. omega (arith, c.type_inv.key i)) in
    grind (arith, common_steps)

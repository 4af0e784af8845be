-- `steps_2_to_4` meets its contract: Steps 3 to 4b are handed what Step 2 left.
use Rattle.steps_2_to_4.proofs.Inputs.steps_2_to_4.Goals as goal

pub returns : goal.returns
returns c =
    let made = c.step_2-total.ensures in
    record { sum = made.sum; quantity = made.quantity; reserved = c.steps_3_and_4.ensures }

-- `read_call` meets its contract: the fault of the numbers, or a call.
use Rattle.base.proofs.Prelude.{sym, ap, ◌∙◌, rules}
use Rattle.std.specs.Result.{result_map_both}
use Rattle.journal.specs.Calls.{numbers_of}
use Rattle.journal.specs.Workers.Left.{words_left}
use Rattle.journal.proofs.CallLaws.{call-made}
use Rattle.journal.proofs.calls.read_call.Goals as goal

pub returns : goal.returns
returns c = call-made c.args.kind c.takes.result 4 c.read_numbers.new.numbers _ c.call_with.result _ (ap (result_map_both (λ _. c.read_numbers.new.numbers) (λ fault. fault)) (sym c.in_ok-read_numbers.was) ∙ c.read_numbers.ensures ∙ ap (λ n. numbers_of n (words_left c.args.words.now)) (search rules)) (search rules) c.call_with.ensures

-- `read_calls` meets its contract: a journal that was read has no more calls than there is room for.
use Rattle.base.proofs.Prelude.{◌≡◌, sym, ◌∙◌, rules}
use Rattle.std.specs.Prelude.{Ok}
use Rattle.year.proofs.JournalLaws.{calls-few}
use Rattle.year.proofs.read_calls.Goals as goal

pub invariant_of-result : goal.invariant_of-result
invariant_of-result g c =
    let read : c.read_journal.result ≡ Ok c.in_ok-count.count = search rules in
    record { few = calls-few _ c.args.words.now c.in_ok-count.count (search rules) (sym c.read_journal.ensures.0 ∙ read) }

-- `write_sizes` meets its contract: two words are stored.
use Rattle.base.proofs.Prelude.{ap, ◌∙◌, set}
use Rattle.state.specs.Layout.{holders_at}
use Rattle.opened_state.proofs.Source.write_sizes.Goals as goal

pub returns : goal.returns
returns c =
    c.store-2.ensures ∙ ap (λ s. set s holders_at c.args.self.read.holders) c.store.ensures

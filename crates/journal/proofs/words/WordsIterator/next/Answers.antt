-- `next` meets its contract: past the blanks, then past the word.
use Rattle.std.proofs.Common.{◌≡◌, None, ap, sym, ◌∙◌, ◌-◌, arith, rules, length, take, drop, not, refl}
use Rattle.std.proofs.lemmas.Iterator.{YieldsList-from_slice}
use Rattle.std.proofs.lemmas.Iterator.Search.{position_from_yields_List}
use Rattle.base.proofs.Rules.{tests}
use Rattle.journal.specs.Words.{is_blank}
use Rattle.journal.proofs.WordLaws.{no_word, word_next}
use Rattle.journal.proofs.words.WordsIterator.next.Goals as goal

pub returns-in_err-start-clause-steps : goal.returns-in_err-start-clause-steps
returns-in_err-start-clause-steps c =
    let found = position_from_yields_List (λ byte. not (is_blank byte)) _ _ c.position.result c.position.ensures.ran (YieldsList-from_slice c.args.self.now.rest.now cc) (λ x b q k. search (rules, tests)) in
    let none = no_word c.args.self.now.rest.now (sym c.in_err-start.was ∙ found) in
    let e : c.from_residual.result ≡ None = search rules in
    rw e (none, none)

pub returns-clause-steps : goal.returns-clause-steps
returns-clause-steps c =
    let found = position_from_yields_List (λ byte. not (is_blank byte)) _ _ c.position.result c.position.ensures.ran (YieldsList-from_slice c.args.self.now.rest.now cc) (λ x b q k. search (rules, tests)) in
    let blank = position_from_yields_List is_blank _ _ c.position-2.result c.position-2.ensures.ran (YieldsList-from_slice (take (length c.args.self.now.rest.now - c.in_ok-start.start) (drop c.in_ok-start.start c.args.self.now.rest.now)) cc) (λ x b q k. search (rules, tests)) in
    word_next c.args.self.now.rest.now _ _ _ c.position-2.result (sym c.in_ok-start.was ∙ found) refl blank c.unwrap_or-end.ensures

pub returns-clause-goes : goal.returns-clause-goes
returns-clause-goes c =
    let found = position_from_yields_List (λ byte. not (is_blank byte)) _ _ c.position.result c.position.ensures.ran (YieldsList-from_slice c.args.self.now.rest.now cc) (λ x b q k. search (rules, tests)) in
    let blank = position_from_yields_List is_blank _ _ c.position-2.result c.position-2.ensures.ran (YieldsList-from_slice (take (length c.args.self.now.rest.now - c.in_ok-start.start) (drop c.in_ok-start.start c.args.self.now.rest.now)) cc) (λ x b q k. search (rules, tests)) in
    let next = word_next c.args.self.now.rest.now _ _ _ c.position-2.result (sym c.in_ok-start.was ∙ found) refl blank c.unwrap_or-end.ensures in
    record { on = λ h. (tt, tt, omega (arith, ap length next)); keeps = tt; rests = λ h. tt }

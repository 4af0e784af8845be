use Rattle.base.proofs.Prelude.{◌≡◌, ◌+◌, sym, ap, ◌∙◌, length, rules, arith, ℕ}
use lib.ListN.{replicate, length-replicate}
use Rattle.std.specs.Prelude.{Err}
use Rattle.sheet_table.specs.Fields.{flaw}
use Rattle.sheet_table.specs.declared.faults.Fault.TheVariants.{WrongFields}
use Rattle.sheet_table.proofs.FieldLaws.{numbers_begin, numbers-lack, numbers-stop, numbers-turn, numbers-over-end, numbers-end}
use Rattle.sheet_table.proofs.EntryLaws.{in_column, same-number, fault-in, handed-fault}
use Rattle.sheet_table.proofs.fields.read_numbers.Goals as goal

pub loop-i-init : goal.loop-i-init
loop-i-init g c =
    let size : length c.args.limits.now ≡ g.row.N = search rules in
    (size, omega (arith, length-replicate {A = ℕ} g.row.N 0), numbers_begin c.args.column c.args.limits.now (replicate g.row.N 0) _)

pub returns-in_default : goal.returns-in_default
returns-in_default g c =
    let t = c.loop-i.invariant in
    numbers-lack c.args.column c.loop-i.i c.args.limits.now c.loop-i.numbers _ _ t.2 (search rules) (rw c.in_default.is at c.next.ensures.steps).0

pub returns-in_err-numbers : goal.returns-in_err-numbers
returns-in_err-numbers g c =
    let t = c.loop-i.invariant in
    let put : c.map_err.result ≡ in_column (c.args.column + c.loop-i.i) c.check_number.result = search rules in
    let fault = fault-in (c.args.column + c.loop-i.i) _ _ (sym c.in_err-numbers.was ∙ put) in
    handed-fault _ _ c.from_residual.ensures.1
    ∙ ap Err fault.2
    ∙ numbers-stop c.args.column c.loop-i.i c.args.limits.now c.loop-i.numbers _ _ t.2 _ _ (rw c.in-Some.is at c.next.ensures.steps) (search rules) fault.0 (fault.1 ∙ c.check_number.ensures ∙ search rules)

pub loop-i-preserved : goal.loop-i-preserved
loop-i-preserved g c =
    let t = c.loop-i.invariant in
    let put : c.map_err.result ≡ in_column (c.args.column + c.loop-i.i) c.check_number.result = search rules in
    (t.0, search rules, numbers-turn c.args.column c.loop-i.i c.args.limits.now c.loop-i.numbers _ _ t.2 _ _ (rw c.in-Some.is at c.next.ensures.steps) (search rules) (search rules) c.in_ok-numbers.field-0 (same-number (c.args.column + c.loop-i.i) _ _ (sym c.in_ok-numbers.was ∙ put) ∙ c.check_number.ensures ∙ search rules))

pub returns-in-Some-next : goal.returns-in-Some-next
returns-in-Some-next g c =
    let t = c.loop-i.invariant in
    let end : c.loop-i.i ≡ length c.args.limits.now = search rules in
    ap (λ n. Err (flaw (c.args.column + n) WrongFields)) (sym t.0)
    ∙ numbers-over-end c.args.column c.loop-i.i c.args.limits.now c.loop-i.numbers _ _ t.2 _ _ (rw c.in-Some-next.is at c.next-2.ensures.steps) end

pub returns-in-None : goal.returns-in-None
returns-in-None g c =
    let t = c.loop-i.invariant in
    numbers-end c.args.column c.loop-i.i c.args.limits.now c.loop-i.numbers _ _ t.2 (search rules) (t.1 ∙ sym t.0) (rw c.in-None.is at c.next-2.ensures.steps).0

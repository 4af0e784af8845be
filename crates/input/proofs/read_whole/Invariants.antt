-- Each turn leaves less to fill, and what is filled is what was taken from the file.
use Rattle.std.proofs.Common.{◌≡◌, ◌-◌, ◌≤◌, length, take}
use Rattle.std.specs.Io.KnownBytes.{Consumes}
use Rattle.input.proofs.read_whole.Given as goal

abbrev pub invariant-loop-count : goal.invariant-loop-count
invariant-loop-count g l = (length l.buffer ≡ length l.initial.buffer) × (l.count ≤ length l.buffer) × Consumes (g.R.Read.remaining l.initial.file) (g.R.Read.remaining l.file) (take l.count l.buffer)

abbrev pub decreases-loop-count : goal.decreases-loop-count
decreases-loop-count g l = length l.buffer - l.count

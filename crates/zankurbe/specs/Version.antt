-- The version of the library: 10,000 · major + 100 · minor + patch. Its home is VERSION in src/lib.rt, which a test holds the
-- header to; here it stands for the contract.
use Rattle.std.specs.Prelude.{ℕ}

abbrev pub version : ℕ
version = 10000

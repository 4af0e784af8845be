-- Why a line of a journal can't be read, and the sentence that says so.
use Rattle.std.specs.Prelude.{ℕ, List, ◌++◌, decimal}
use Rattle.text.specs.Ascii.{ascii}
use Rattle.text.specs.declared.reading.NumberError.{NumberError}
use Rattle.text.specs.declared.reading.NumberError.TheVariants.{Over, Bad}
use Rattle.journal.specs.declared.faults.Fault.{Fault}
use Rattle.journal.specs.declared.faults.Fault.TheVariants.{NotACall, BadNumbers, Over32Bits, TooManyCalls}
use Rattle.journal.specs.declared.faults.Unreadable.{Unreadable}

-- the fault of a line with a word that is no number
abbrev pub fault_of : NumberError → Fault
fault_of Over = Over32Bits
fault_of Bad = BadNumbers

-- a fault in words
abbrev pub fault_text : Fault → List ℕ
fault_text NotACall = ascii "not a call"
fault_text BadNumbers = ascii "a number is missing, is one too many or can't be read"
fault_text Over32Bits = ascii "a number over 32 bits"
fault_text TooManyCalls = ascii "more than 16,384 calls"

-- which line can't be read, its number in the library's decimal digits, and why
abbrev pub unreadable_text : Unreadable → List ℕ
unreadable_text unreadable = ascii "line " ++ (decimal unreadable.line ++ (ascii ": " ++ fault_text unreadable.fault))

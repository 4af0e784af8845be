-- Numbers as decimal digits in bytes: how one is written, and what number a text is.
use Rattle.std.specs.Prelude.{ℕ, zero, suc, ◌+◌, ◌-◌, ◌*◌, ◌/◌, ◌%◌, ◌^◌, Bool, true, ◌&&◌, List, [], ◌∷◌, ◌++◌, ltb, leb, length}
use Rattle.std.specs.Prelude.{Result, Ok, Err}
use Prim.Native.Char.{code}
use Rattle.base.specs.Choice.{pick}
use Rattle.text.specs.declared.reading.NumberError.{NumberError}
use Rattle.text.specs.declared.reading.NumberError.TheVariants.{Over, Bad}

-- the byte of digit d, in ASCII
abbrev pub digit : ℕ → ℕ
digit d = code "0" + d

-- the decimal digits of n, k + 1 at most
unfoldable pub decimal_to : ℕ → ℕ → List ℕ
decimal_to zero n = digit (n % 10) ∷ []
decimal_to (suc k) n = pick (ltb n 10) (digit n ∷ []) (decimal_to k (n / 10) ++ (digit (n % 10) ∷ []))

-- a number of 64 bits has 20 at most
abbrev pub decimal : ℕ → List ℕ
decimal n = decimal_to 19 n

-- whether a byte is a digit
abbrev pub is_digit : ℕ → Bool
is_digit byte = leb (digit 0) byte && leb byte (digit 9)

-- whether every byte of a text is a digit
unfoldable pub all_digits : List ℕ → Bool
all_digits [] = true
all_digits (byte ∷ text) = is_digit byte && all_digits text

-- the number that digits are: each counts as often as the power of ten of its place says
unfoldable pub value : List ℕ → ℕ
value [] = 0
value (byte ∷ text) = (byte - digit 0) * 10 ^ length text + value text

-- what a text is as a number of 32 bits: Bad where it is empty or has a byte that is no digit, Over from 2 ^ 32 on
unfoldable pub number_of : List ℕ → Result ℕ NumberError
number_of text =
    pick (ltb 0 (length text) && all_digits text) (pick (ltb (value text) (2 ^ 32)) (Ok (value text)) (Err Over)) (Err Bad)

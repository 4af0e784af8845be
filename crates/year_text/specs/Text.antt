-- What program `year` prints (README.md, "A worked year"), byte by byte. Of each call: `ok`, its kW and its passes, or `R` and the
-- number of its refusal. After a closing `G` and holder, intertie and kW of each grant. At the end `I` and the figures of each intertie,
-- then `H` and those of each holder.
use Rattle.std.specs.Prelude.{ℕ, ◌+◌, ◌*◌, ◌/◌, ◌%◌, min, List, [], ◌∷◌, eqb, length}
use Rattle.base.specs.Choice.{pick}
use Rattle.base.specs.Encoding.{answer_words}
use Rattle.base.specs.Limits.{most_interties, most_holders, grants_words}
use Rattle.base.specs.Words.{at}
use Rattle.state.specs.Layout.{interties, holders}
use Rattle.text.specs.Lines.{line, each}
use Rattle.control_room.specs.Figures.{intertie_figures, holder_figures}

-- the most bytes of a text, which each of these fits into
abbrev pub text_bytes : ℕ
text_bytes = 99840

-- the most answers of a text
abbrev pub most_answers : ℕ
most_answers = 2048

-- the answer to a call, and to opening a sheet that is refused
unfoldable pub answer_line : (refusal kw passes : ℕ) → List ℕ
answer_line refusal kw passes = pick (eqb refusal 0) (line "ok" (kw ∷ passes ∷ [])) (line "R" (refusal ∷ []))

-- answer n of answers, three numbers each
abbrev pub answer_of : List ℕ → ℕ → List ℕ
answer_of answers n =
    answer_line (at answers (answer_words * n)) (at answers (answer_words * n + 1)) (at answers (answer_words * n + 2))

-- the answers to calls, the first where there are more than a text has
unfoldable pub answers_text : List ℕ → List ℕ
answers_text answers = each (min (length answers / answer_words) most_answers) (answer_of answers)

-- a grant, where it is not 0
unfoldable pub grant_line : (holder intertie kw : ℕ) → List ℕ
grant_line holder intertie kw = pick (eqb kw 0) [] (line "G" (holder ∷ intertie ∷ kw ∷ []))

-- the grant of a word: word h * I + i is holder h's on intertie i
abbrev pub grant_of : List ℕ → ℕ → ℕ → List ℕ
grant_of grants I word = grant_line (word / I) (word % I) (at grants word)

-- the grants of a closing; none without interties
unfoldable pub grants_text : List ℕ → ℕ → List ℕ
grants_text grants I = pick (eqb I 0) [] (each grants_words (grant_of grants I))

-- intertie i: limit, outside rights, reserved, placed, taken, unassigned
unfoldable pub intertie_line : List ℕ → ℕ → List ℕ
intertie_line s i =
    let figures = intertie_figures s i in
    line "I" (
    i ∷ figures.limit ∷ figures.outside ∷ figures.reserved ∷ figures.placed ∷ figures.taken ∷ figures.unassigned ∷ []
    )

-- the interties of a state
unfoldable pub interties_text : List ℕ → List ℕ
interties_text s = each (min (interties s) most_interties) (intertie_line s)

-- holder h after the first `count` calls: Step 5 share, bought, sold, placed, unplaced, reserved, locked
unfoldable pub holder_line : (state calls answers : List ℕ) (count h : ℕ) → List ℕ
holder_line s calls answers count h =
    let figures = holder_figures s calls answers count h in
    line "H" (
    h
    ∷ figures.step_5_share
    ∷ figures.bought
    ∷ figures.sold
    ∷ figures.placed
    ∷ figures.unplaced
    ∷ figures.reserved
    ∷ figures.locked
    ∷ []
    )

-- the holders of a state
unfoldable pub holders_text : (state calls answers : List ℕ) (count : ℕ) → List ℕ
holders_text s calls answers count = each (min (holders s) most_holders) (holder_line s calls answers count)

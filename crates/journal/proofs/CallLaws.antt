-- A line's name and numbers as a call.
use Prim.Native.Nat.{ℕ, ◌+◌, ◌-◌}
use mathlib.Core.Path.{◌≡◌, refl, sym, ap, ◌∙◌}
use mathlib.Core.Logic.{◌≢◌}
use mathlib.Core.List.{List, [], ◌∷◌, ◌++◌}
use native.Mathlib.Decide.{dec_lt}
use native.Mathlib.Omega.{arith}
use lib.ListN.{length, drop, replicate, length-replicate, get_or-append, get_or-eq_default, get_or-replicate}
use lib.Seq.{get_or-append-add, get_or-drop}
use borrow.Author.Tests.{eq-eqb, ne_eqb}
use Rattle.std.specs.Prelude.{Option, Some, None, Result, Ok, Err}
use Rattle.base.specs.Words.{at}
use Rattle.base.specs.declared.encoding.CallKind.{CallKind}
use Rattle.base.specs.declared.encoding.CallKind.TheVariants.{Trade, Request, Close, Take, Move, Lock}
use Rattle.journal.specs.Words.{words}
use Rattle.journal.specs.Calls.{kind_of, takes, numbers_of, call_with, made, named, call_of, line_of}
use Rattle.journal.specs.declared.calls.Call.{Call}
use Rattle.journal.specs.declared.faults.Fault.{Fault}
use Rattle.journal.specs.declared.faults.Fault.TheVariants.{NotACall}

-- numbers in front of zeros are the words of the list
zeros-at : (n i : ℕ) → at (replicate n 0) i ≡ 0
zeros-at n i =
    elim (dec_lt i n) [
      | yes inside ↦ get_or-replicate n i 0 0 inside
      | no past ↦ get_or-eq_default (replicate n 0) 0 {n = i} (omega (arith, length-replicate {A = ℕ} n 0))
    ]

front_at : (n m : ℕ) (values : List ℕ) (i : ℕ) → at (values ++ drop n (replicate m 0)) i ≡ at values i
front_at n m values i =
    elim (dec_lt i (length values)) [
      | yes inside ↦ get_or-append values (drop n (replicate m 0)) 0 i inside
      | no past ↦
          let later : length values + (i - length values) ≡ i = omega arith in
          ap (λ (k : ℕ). at (values ++ drop n (replicate m 0)) k) (sym later)
          ∙ get_or-append-add values (drop n (replicate m 0)) (i - length values) 0
          ∙ get_or-drop n (replicate m 0) (i - length values) 0
          ∙ zeros-at m (n + (i - length values))
          ∙ sym (get_or-eq_default values 0 {n = i} (omega arith))
    ]

-- a call reads its numbers there
call_same : (kind : CallKind) (l values : List ℕ) → ((i : ℕ) → at l i ≡ at values i) → call_with kind l ≡ call_with kind values
call_same Trade l values same_at = rw (same_at 0, same_at 1, same_at 2, same_at 3) refl
call_same Request l values same_at = rw (same_at 0, same_at 1, same_at 2, same_at 3) refl
call_same Close l values same_at = rw (same_at 0, same_at 1, same_at 2, same_at 3) refl
call_same Take l values same_at = rw (same_at 0, same_at 1, same_at 2, same_at 3) refl
call_same Move l values same_at = rw (same_at 0, same_at 1, same_at 2, same_at 3) refl
call_same Lock l values same_at = rw (same_at 0, same_at 1, same_at 2, same_at 3) refl

-- what `read_call` answers: the numbers stand in front of zeros
pub call-made : (kind : CallKind) (n m : ℕ) (values l : List ℕ) (call : Call) (r : Result (List ℕ) Fault) → Ok values ≡ r → l ≡ values ++ drop n (replicate m 0) →
    call ≡ call_with kind l → Ok (Some call) ≡ made kind r
call-made kind n m values l call r read numbers is =
    ap (λ c. Ok (Some c)) (is ∙ call_same kind l values (λ i. ap (λ k. at k i) numbers ∙ front_at n m values i)) ∙ ap (made kind) read

-- what `read_line` answers
module _ (line : List ℕ) where
  pub line-comment : at line 0 ≡ 35 → Ok None ≡ line_of line
  unfolding line_of
  line-comment hash = rw (eq-eqb (at line 0) 35 hash) refl

  module _ (no-hash : at line 0 ≢ 35) where
    pub line-blank : words line ≡ [] → Ok None ≡ line_of line
    unfolding line_of call_of
    line-blank none = rw (ne_eqb (at line 0) 35 no-hash, none) refl

    module _ (name : List ℕ) (others : List (List ℕ)) (are : words line ≡ name ∷ others) where
      line-call : line_of line ≡ named (kind_of name) others
      unfolding line_of call_of
      line-call = rw (ne_eqb (at line 0) 35 no-hash, are) refl

      pub line-unknown : None ≡ kind_of name → Err NotACall ≡ line_of line
      line-unknown none = sym (line-call ∙ rw (← none) refl)

      pub line_known : (kind : CallKind) → Some kind ≡ kind_of name → (r : Result (Option Call) Fault) → r ≡ made kind (numbers_of (takes kind) others) → r ≡ line_of line
      line_known kind some r is = is ∙ sym (line-call ∙ rw (← some) refl)

-- what a line is: a comment, blank, of no such name, or a call
pub ruleset lines = (line-comment, line-blank, line-unknown, line_known)

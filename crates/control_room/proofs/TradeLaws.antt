-- A trade read from a call and its answer by themselves.
use Prim.Native.Nat.{ℕ, ◌*◌, ◌<◌}
use mathlib.Core.Path.{◌≡◌, refl, sym, ap, ◌∙◌}
use mathlib.Core.Bool.{true, false, ◌&&◌}
use mathlib.Core.List.{List, []}
use lib.Dec.{eqb}
use native.Mathlib.Omega.{arith}
use lib.ListN.{get_or}
use Rattle.std.specs.Simd.{first_chunks}
use Rattle.base.specs.Words.{at}
use Rattle.base.proofs.ChoiceLaws.{pick_true, pick-false}
use Rattle.control_room.specs.Trades.{word_of, traded_in, traded_by}
use Rattle.control_room.specs.declared.trades.Party.{Party}
use Rattle.control_room.specs.declared.trades.Party.TheVariants.{Seller, Buyer}
use Rattle.control_room.proofs.ChunkLaws.{at-chunk}

-- the party is named by word 1 or 2
pub word-inside : (party : Party) → word_of party < 6
word-inside Seller = omega arith
word-inside Buyer = omega arith

pub traded-chunk : (calls answers : List ℕ) (k j n : ℕ) (party : Party) (h : ℕ) → n < k → n < j →
    traded_by (get_or (first_chunks 6 k calls) n []) (get_or (first_chunks 3 j answers) n []) (word_of party) h ≡ traded_in calls answers (word_of party) h n
traded-chunk calls answers k j n party h inside within =
    let kind : at (get_or (first_chunks 6 k calls) n []) 0 ≡ at calls (6 * n) = at-chunk 6 k n 0 calls inside (omega arith) ∙ ap (at calls) (omega arith) in
    let refusal : at (get_or (first_chunks 3 j answers) n []) 0 ≡ at answers (3 * n) = at-chunk 3 j n 0 answers within (omega arith) ∙ ap (at answers) (omega arith) in
    rw (
      kind,
      refusal,
      at-chunk 6 k n (word_of party) calls inside (word-inside party),
      at-chunk 6 k n 4 calls inside (omega arith),
    ) refl

-- the test that is made of a call and its answer, by the number of a trade's kind and the word of the party
module _ (call answer : List ℕ) (party h number word : ℕ) (number-is : number ≡ 1) (word-is : word ≡ party) where
  pub traded_yes : ((eqb (at call 0) number && eqb (at answer 0) 0) && eqb h (at call word)) ≡ true → at call 4 ≡ traded_by call answer party h
  traded_yes t = sym (pick_true _ _ _ (rw (number-is, word-is) at t))

  pub traded_no : ((eqb (at call 0) number && eqb (at answer 0) 0) && eqb h (at call word)) ≡ false → 0 ≡ traded_by call answer party h
  traded_no t = sym (pick-false _ _ _ (rw (number-is, word-is) at t))

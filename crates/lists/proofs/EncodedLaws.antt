-- Laws of calls as words: the test of the words, what a call of each kind gives, and the words that closings are lent.
use Prim.Native.Nat.{ℕ, zero, suc, ◌+◌, ◌-◌, ◌*◌, ◌%◌, ◌≤◌, ◌<◌, min}
use mathlib.Core.Path.{◌≡◌, refl, sym, ap, ◌∙◌}
use mathlib.Core.Bool.{Bool, true, false, ◌&&◌}
use mathlib.Core.List.{List, [], ◌∷◌, ◌++◌}
use native.Mathlib.Omega.{arith}
use native.Mathlib.Decide.{dec_le}
use lib.Dec.{leb, eqb}
use lib.ListN.{length, get_or, take, drop, length-append, length-take, length-drop, drop_of_length-le}
use lib.Seq.{take_all, drop-drop}
use borrow.Author.Tests.{eq-eqb, leb-true}
use borrow.Rule.Slice.PartMut.{mid_of, put_mid, put_same, Post-is, drop_put}
use Rattle.std.specs.List.{list_all}
use Rattle.std.specs.Simd.{first_chunks}
use Rattle.base.specs.CallKind.{number_of}
use Rattle.base.specs.declared.encoding.CallKind.{CallKind}
use Rattle.base.specs.declared.encoding.CallKind.TheVariants.{Trade, Request, Close, Take, Move, Lock}
use Rattle.base.specs.Choice.{pick}
use Rattle.base.specs.Sums.{all_to}
use Rattle.base.specs.Words.{at}
use Rattle.base.specs.declared.Answer.{Answer}
use Rattle.base.proofs.ChoiceLaws.{pick_true, pick-false, pick-by, and_left, and_right}
use Rattle.base.proofs.SumLaws.{all_to-each, all_to-same}
use Rattle.base.proofs.ListLaws.{all_to-first}
use Rattle.closing.specs.Close as Close
use Rattle.balances.specs.Calls.{result}
use Rattle.lists.specs.Workers.Said.{by_kind, said, lent_after}
use Rattle.lists.specs.declared.encoded.Call.{Call}
use Rattle.lists.specs.Encoded.{call_count, words_of, kind_of, known_kind, kw_of, is_closing, numbered, call_of, accepted, with_answer, with_lent}

-- the test of the kinds
abbrev kinds : List ℕ → Bool
kinds encoded = all_to (call_count encoded) (λ n. known_kind (kind_of (words_of encoded n)))

-- chunk i of a list is its n words from n * i on
chunk_is : (n k i : ℕ) (l : List ℕ) → i < k → get_or (first_chunks n k l) i [] ≡ take n (drop (n * i) l)
chunk_is n zero i l few = absurd (omega arith)
chunk_is n (suc k) zero l few =
    let none : 0 ≡ n * 0 = omega arith in
    ap (λ m. take n (drop m l)) none
chunk_is n (suc k) (suc i) l few =
    let next : n + n * i ≡ n * suc i = omega arith in
    chunk_is n k i (drop n l) (omega arith) ∙ ap (take n) (drop-drop (n * i) n l ∙ ap (λ m. drop m l) next)

-- the words of a list as calls
module _ (encoded : List ℕ) (calls : List (List ℕ)) (are : calls ≡ first_chunks 6 (call_count encoded) encoded) (size : length calls ≡ call_count encoded) where
  pub words-at : (n : ℕ) → n < length calls → get_or calls n [] ≡ words_of encoded n
  words-at n l = ap (λ c. get_or c n []) are ∙ chunk_is 6 (call_count encoded) n encoded (omega (arith, size))

  pub kinds-at : all_to (length calls) (λ n. known_kind (kind_of (get_or calls n []))) ≡ kinds encoded
  kinds-at =
      all_to-same (length calls) (λ n. known_kind (kind_of (get_or calls n []))) (λ n. known_kind (kind_of (words_of encoded n)))
      (λ n l. ap (λ w. known_kind (kind_of w)) (words-at n l))
      ∙ ap (λ k. all_to k (λ n. known_kind (kind_of (words_of encoded n)))) size

-- a test of every call is one of every place
pub every-call : (calls : List (List ℕ)) → list_all (λ (words : List ℕ). known_kind (at words 0)) calls ≡ all_to (length calls) (λ (n : ℕ). known_kind (at (get_or calls n []) 0))
unfolding all_to
every-call [] = refl
every-call (words ∷ calls) =
    ap (λ b. known_kind (at words 0) && b) (every-call calls)
    ∙ sym (all_to-first (length calls) (λ n. known_kind (at (get_or (words ∷ calls) n []) 0)))

-- the test of the words: whole calls and room for the answers, then the kinds
module _ (encoded : List ℕ) (room rest count : ℕ) (whole : Bool) (told : whole ≡ eqb rest 0) (left : rest ≡ length encoded % 6) (size : count ≡ call_count encoded) where
  fits : (whole && leb (3 * count) room) ≡ (eqb (length encoded % 6) 0 && leb (3 * call_count encoded) room)
  fits =
      ap (λ b. b && leb (3 * count) room) (told ∙ ap (λ k. eqb k 0) left)
      ∙ ap (λ k. eqb (length encoded % 6) 0 && leb (3 * k) room) size

  pub by-kinds : (whole && leb (3 * count) room) ≡ true → (known : Bool) → known ≡ kinds encoded → known ≡ accepted encoded room
  unfolding accepted
  by-kinds t known is = is ∙ ap (λ b. b && kinds encoded) (sym t ∙ fits)

  pub no-list : (whole && leb (3 * count) room) ≡ false → (whole && leb (3 * count) room) ≡ accepted encoded room
  unfolding accepted
  no-list f = f ∙ ap (λ b. b && kinds encoded) (sym f ∙ fits)

-- words that pass have room for the answers
pub accepted-room : (encoded : List ℕ) (room : ℕ) → accepted encoded room ≡ true → 3 * call_count encoded ≤ room
unfolding accepted
accepted-room encoded room e =
    let whole : Bool = eqb (length encoded % 6) 0 in
    let fits : Bool = leb (3 * call_count encoded) room in
    leb-true (3 * call_count encoded) room (and_right whole fits (and_left (whole && fits) (kinds encoded) e))

-- and known kinds
pub accepted-known : (encoded : List ℕ) (room n : ℕ) → accepted encoded room ≡ true → n < call_count encoded → known_kind (kind_of (words_of encoded n)) ≡ true
unfolding accepted
accepted-known encoded room n e l =
    all_to-each (call_count encoded) (λ m. known_kind (kind_of (words_of encoded m))) (and_right (eqb (length encoded % 6) 0 && leb (3 * call_count encoded) room) (kinds encoded) e) n l

-- the call of a known kind that six words are
kind-says : (kind : CallKind) (words lent : List ℕ) → number_of kind ≡ at words 0 →
    by_kind kind (at words 1) (at words 2) (at words 3) (kw_of (at words 4) (at words 5)) lent ≡ call_of words lent
unfolding numbered
kind-says Trade words lent e = rw (← e) refl
kind-says Request words lent e = rw (← e) refl
kind-says Close words lent e = rw (← e) refl
kind-says Take words lent e = rw (← e) refl
kind-says Move words lent e = rw (← e) refl
kind-says Lock words lent e = rw (← e) refl

-- a kind that isn't a closing's
pub other-kind : (kind : CallKind) → (kind ≡ Close → ⊥) → eqb (number_of kind) 3 ≡ false
other-kind Trade other = refl
other-kind Request other = refl
other-kind Close other = absurd (other refl)
other-kind Take other = refl
other-kind Move other = refl
other-kind Lock other = refl

-- a place past the end is as good as the end
pub take_most : (n : ℕ) (l : List ℕ) → take (min n (length l)) l ≡ take n l
take_most n l =
    elim (dec_le n (length l)) [
      | yes inside ↦ let e : min n (length l) ≡ n = omega arith in ap (λ k. take k l) e
      | no past ↦
          let e : min n (length l) ≡ length l = omega arith in
          ap (λ k. take k l) e ∙ take_all (length l) l (omega arith) ∙ sym (take_all n l (omega arith))
    ]

pub drop-most : (n : ℕ) (l : List ℕ) → drop (min n (length l)) l ≡ drop n l
drop-most n l =
    elim (dec_le n (length l)) [
      | yes inside ↦ let e : min n (length l) ≡ n = omega arith in ap (λ k. drop k l) e
      | no past ↦
          let e : min n (length l) ≡ length l = omega arith in
          ap (λ k. drop k l) e ∙ drop_of_length-le l {i = length l} (omega arith) ∙ sym (drop_of_length-le l {i = n} (omega arith))
    ]

-- a part that ends where the list ends is all that there is of 1536 words
module _ (g : List ℕ) (start end : ℕ) (inside : start ≤ length g) (is : end ≡ min (start + 1536) (length g)) where
  rest : min 1536 (length (drop start g)) ≡ end - start
  rest = omega (arith, length-drop start g)

  pub part-lent : mid_of start (end - start) g ≡ take 1536 (drop start g)
  part-lent = ap (λ k. take k (drop start g)) (sym rest) ∙ take_most 1536 (drop start g)

  pub past-lent : drop (end - start) (drop start g) ≡ drop (start + 1536) g
  past-lent = ap (λ k. drop k (drop start g)) (sym rest) ∙ drop-most 1536 (drop start g) ∙ drop-drop 1536 start g

-- 1536 words or all there are, put back at their place: the length stays, and so does what lies past them
module _ (from : ℕ) (g lent : List ℕ) (size : length lent ≡ length (take 1536 (drop from g))) where
  abbrev put : List ℕ
  put = take from g ++ (lent ++ drop (from + 1536) g)

  pub put-length : length put ≡ length g
  put-length =
      length-append (take from g) (lent ++ drop (from + 1536) g)
      ∙ (omega (
        arith,
        length-append lent (drop (from + 1536) g),
        size,
        length-take from g,
        length-take 1536 (drop from g),
        length-drop from g,
        length-drop (from + 1536) g,
      ))

  pub put-past : drop (from + 1536) put ≡ drop (from + 1536) g
  put-past =
      elim (dec_le (from + 1536) (length g)) [
        | yes inside ↦
            let whole : length lent ≡ from + 1536 - from = omega (arith, size, length-take 1536 (drop from g), length-drop from g) in
            ap (λ l. drop (from + 1536) (take from g ++ (lent ++ l))) (sym (Post-is from (from + 1536) g (omega arith)))
            ∙ drop_put from (from + 1536) g lent (omega arith) inside whole
        | no past ↦ drop_of_length-le put {i = from + 1536} (omega (arith, put-length)) ∙ sym (drop_of_length-le g {i = from + 1536} (omega arith))
      ]

-- what six words give that are a closing's
pub closing-gives : (words lent s : List ℕ) → at words 0 ≡ 3 →
    ((result (call_of words lent) s).answer ≡ (Close.close s lent).answer)
    × ((result (call_of words lent) s).state ≡ (Close.close s lent).state)
    × ((result (call_of words lent) s).grants ≡ (Close.close s lent).grants)
unfolding result
closing-gives words lent s e = rw (eq-eqb (at words 0) 3 e) (refl, refl, refl)

-- one call, by its six words: what is lent of the grants, what stands in all lent words after it, and where the next closing's words begin
module _ (words g s : List ℕ) (start n : ℕ) where
  abbrev lent_here : List ℕ
  lent_here = take 1536 (drop start g)

  abbrev pub Ran1 : (next : ℕ) (t h answers after : List ℕ) → Type 0
  Ran1 next t h answers after =
      (next ≡ pick (is_closing words) (min (start + 1536) (length g)) start)
      × (t ≡ (result (call_of words lent_here) s).state)
      × (h ≡ with_lent words g start (result (call_of words lent_here) s).grants)
      × (after ≡ with_answer answers n (result (call_of words lent_here) s).answer)

  pub ran_said : (call : Call) (end next : ℕ) (r : Answer) (t last answers after : List ℕ) →
      (number_of call.kind ≡ at words 0)
      × (call.a ≡ at words 1)
      × (call.b ≡ at words 2)
      × (call.c ≡ at words 3)
      × (call.kw ≡ kw_of (at words 4) (at words 5)) →
      start ≤ length g → end ≡ min (start + 1536) (length g) → next ≡ pick (eqb (number_of call.kind) 3) end start →
      (r ≡ (result (said call (mid_of start (end - start) g)) s).answer)
      × (t ≡ (result (said call (mid_of start (end - start) g)) s).state)
      × (last ≡ lent_after call.kind (result (said call (mid_of start (end - start) g)) s).grants (mid_of start (end - start) g)) →
      after ≡ with_answer answers n r →
      Ran1 next t (put_mid start (end - start) g last) answers after
  ran_said call end next r t last answers after says inside is goes told wrote =
      let part : mid_of start (end - start) g ≡ lent_here = part-lent g start end inside is in
      let closing : eqb (number_of call.kind) 3 ≡ is_closing words = ap (λ k. eqb k 3) says.0 in
      let numbers : said call lent_here ≡ by_kind call.kind (at words 1) (at words 2) (at words 3) (kw_of (at words 4) (at words 5)) lent_here = rw (says.1, says.2, says.3, says.4) refl in
      let same : said call (mid_of start (end - start) g) ≡ call_of words lent_here = ap (said call) part ∙ numbers ∙ kind-says call.kind words lent_here says.0 in
      let gives : List ℕ = (result (call_of words lent_here) s).grants in
      let left : last ≡ pick (is_closing words) gives (mid_of start (end - start) g) =
      told.2
      ∙ ap (λ c. lent_after call.kind (result c s).grants (mid_of start (end - start) g)) same
      ∙ ap (λ b. pick b gives (mid_of start (end - start) g)) closing in (
        goes ∙ ap (λ b. pick b end start) closing ∙ ap (λ e. pick (is_closing words) e start) is,
        told.1 ∙ ap (λ c. (result c s).state) same,
        pick-by (λ h. put_mid start (end - start) g last ≡ h) (is_closing words) (take start g ++ (gives ++ drop (start + 1536) g)) g
            (λ t. ap (put_mid start (end - start) g) (left ∙ pick_true (is_closing words) gives (mid_of start (end - start) g) t)
            ∙ ap (λ l. take start g ++ (gives ++ l)) (past-lent g start end inside is))
            (λ f. ap (put_mid start (end - start) g) (left ∙ pick-false (is_closing words) gives (mid_of start (end - start) g) f)
            ∙ put_same start (end - start) g),
        wrote ∙ ap (λ a. with_answer answers n a) (told.0 ∙ ap (λ c. (result c s).answer) same),
      )

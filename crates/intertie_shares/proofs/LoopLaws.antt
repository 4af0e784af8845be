-- The code's loops: over holders, a column that is filled; over interties, a share-out on each.
use Prim.Native.Nat.{ℕ, ◌+◌, ◌-◌, ◌/◌, ◌≤◌, ◌<◌, zero-le}
use mathlib.Core.Path.{◌≡◌, refl, sym, ap, ◌∙◌, subst}
use mathlib.Core.Bool.{Bool, true, false}
use mathlib.Core.List.{List, []}
use native.Mathlib.Omega.{arith}
use lib.Dec.{leb, eqb}
use lib.ListN.{length, take, set, length-set, get_or}
use Rattle.std.proofs.lemmas.List.{get_or-take}
use Rattle.std.specs.Simd.{first_chunks}
use borrow.Author.Tests.{leb-true}
use Rattle.std.specs.Prelude.{Option, Some, None, SomeIff}
use Rattle.base.specs.Choice.{pick}
use Rattle.base.specs.Sums.{sum_to, all_to}
use Rattle.base.specs.Words.{at, tab, fill}
use Rattle.base.specs.Answers.{refused, granted}
use Rattle.base.specs.declared.Answer.{Answer}
use Rattle.base.specs.declared.Granted.{Granted}
use Rattle.base.proofs.SumLaws.{sum_to-zero, sum_to-more, sum_to-mono, sum_to-term, all_to-each}
use Rattle.base.proofs.VectorLaws.{at-row}
use Rattle.base.proofs.WordLaws.{tab-at, length-tab, at-tab, fill-whole}
use Rattle.share_out.specs.Rule.{Outcome, shared, unfit_lengths, unfit_numbers, shared_answer, share_out}
use Rattle.intertie_shares.specs.Pairs.{pair_at, at_pair, column, fill_column, fill_table}
use Rattle.intertie_shares.specs.Rule.{among_holders, share_out_on, grant_on, kw_over, passes_over, over_interties}
use Rattle.intertie_shares.specs.Workers.Fit.{SharedOn}
use Rattle.intertie_shares.proofs.PairLaws.{fill_column-zero, fill_column-more, fill_column-same, length-fill_column, fill_table-zero, fill_table-more}
use Rattle.intertie_shares.proofs.HolderLaws.{Ranged, among-fits}
use Rattle.intertie_shares.proofs.IntertieLaws.{kept_on, kw-most, passes-most}

-- after h of n holders have got f on intertie i
pub record Scattered (i n : ℕ) (f : ℕ → ℕ) (first table : List ℕ) (h : ℕ) : Type 0 where
  pub inside : h ≤ n
  pub size : length table ≡ length first
  pub written : table ≡ fill_column i h f first

module _ (i n : ℕ) (f : ℕ → ℕ) (first : List ℕ) where
  pub scattered-none : Scattered i n f first first 0
  scattered-none = record { inside = zero-le; size = refl; written = sym (fill_column-zero i f first) }

  pub scattered-next : (table : List ℕ) (h x : ℕ) → Scattered i n f first table h → h < n → x ≡ f h →
      Scattered i n f first (set table (pair_at h i) x) (h + 1)
  scattered-next table h x s l e =
      record {
        inside = omega arith;
        size = length-set table (pair_at h i) x ∙ s.size;
        written = rw (s.written, e) (sym (fill_column-more i f first h));
      }

-- what a share-out answers and leaves, by its two refusals
abbrev by_refusal : Bool → Bool → Answer → List ℕ → List ℕ → Outcome
by_refusal five nine a output grants =
    pick five (record { answer = refused 5; output = output })
    (pick nine (record { answer = refused 9; output = output }) (record { answer = a; output = grants }))

settled-by : (five nine : Bool) (a : Answer) (output empty grants : List ℕ) → a.refusal ≡ 0 →
    ((by_refusal five nine a output grants).answer ≡ (by_refusal five nine a empty grants).answer)
    × (pick (eqb (by_refusal five nine a output grants).answer.refusal 0) (by_refusal five nine a output grants).output empty
    ≡ (by_refusal five nine a empty grants).output)
settled-by true nine a output empty grants e = (refl, refl)
settled-by false true a output empty grants e = (refl, refl)
settled-by false false a output empty grants e = (refl, rw e refl)

-- a share-out over any output that is cleared where it is refused is one over an empty output
settled : (pool : ℕ) (claims weights output empty : List ℕ) → length output ≡ length claims → length empty ≡ length claims →
    ((share_out pool claims weights output).answer ≡ (share_out pool claims weights empty).answer)
    × (pick (eqb (share_out pool claims weights output).answer.refusal 0) (share_out pool claims weights output).output empty
    ≡ (share_out pool claims weights empty).output)
unfolding share_out shared_answer
settled pool claims weights output empty n m =
    let g : ℕ → ℕ = at (shared pool claims weights).grants in
    let whole : fill (length claims) g output ≡ fill (length claims) g empty = fill-whole (length claims) g output n ∙ sym (fill-whole (length claims) g empty m) in
    let size : length output ≡ length empty = n ∙ sym m in
    rw (whole, size)
    (settled-by (unfit_lengths (length claims) (length weights) (length empty)) (unfit_numbers pool claims weights) (shared_answer pool claims weights) output empty
    (fill (length claims) g empty) refl)

-- claims that are gathered and the weights are what the definition shares out over, and its output is scattered
pub shared-on : (i H : ℕ) (pools claims weights claimed before output after-it grants after : List ℕ) (r : Answer) (g : Granted) → length weights ≡ H →
    claimed ≡ column claims H i → length before ≡ H → length output ≡ H →
    (r ≡ (share_out (at pools i) claimed weights before).answer) × (output ≡ (share_out (at pools i) claimed weights before).output) →
    (g.kw ≡ r.kw) × (g.passes ≡ r.passes) × (after-it ≡ pick (eqb r.refusal 0) output (tab (length output) (λ h. 0))) →
    after ≡ fill_column i (length after-it) (at after-it) grants → SharedOn i H pools claims weights grants g after
unfolding among_holders
shared-on i H pools claims weights claimed before output after-it grants after r g whole c room size o f a =
    let all : tab H (at weights) ≡ weights = ap (λ n. tab n (at weights)) (sym whole) ∙ tab-at weights in
    let n : length claimed ≡ H = ap (λ l. length l) c ∙ length-tab H (λ h. at_pair claims h i) in
    let empty : List ℕ = tab H (λ h. 0) in
    let made : Outcome = share_out (at pools i) claimed weights before in
    let s = settled (at pools i) claimed weights before empty (room ∙ sym n) (length-tab H (λ h. 0) ∙ sym n) in
    let same : share_out (at pools i) claimed weights empty ≡ share_out_on H (at pools) (at_pair claims) (at weights) i =
    rw c (ap (λ (w : List ℕ). share_out (at pools i) (column claims H i) w empty) (sym all)) in
    let cleared : after-it ≡ pick (eqb r.refusal 0) output empty = rw size at f.2 in
    let answer : r ≡ (share_out_on H (at pools) (at_pair claims) (at weights) i).answer = o.0 ∙ s.0 ∙ ap (λ (x : Outcome). x.answer) same in
    let out : after-it ≡ (share_out_on H (at pools) (at_pair claims) (at weights) i).output =
    cleared
    ∙ ap (λ (x : Answer). pick (eqb x.refusal 0) output empty) o.0
    ∙ ap (λ (l : List ℕ). pick (eqb made.answer.refusal 0) l empty) o.1
    ∙ s.1 ∙ ap (λ (x : Outcome). x.output) same in
    let m : length after-it ≡ H = ap (λ l. length l) out ∙ (kept_on H (at pools) (at_pair claims) (at weights) i).size in
    record {
      kw = f.0 ∙ ap (λ (x : Answer). x.kw) answer;
      passes = f.1 ∙ ap (λ (x : Answer). x.passes) answer;
      column = a ∙ rw (m, out);
    }

-- the word of holder h on intertie i in its row of a table
pub claim-in_row : (I H i h : ℕ) (rows : List (List ℕ)) (claims : List ℕ) → rows ≡ take H (first_chunks 48 (length claims / 48) claims) →
    1536 ≤ length claims → I ≤ 48 → H ≤ 32 → i < I → h < H → at (get_or rows h []) i ≡ at_pair claims h i
claim-in_row I H i h rows claims e whole few some low l =
    ap (λ r. at (get_or r h []) i) e
    ∙ ap (λ row. at row i) (get_or-take H (first_chunks 48 (length claims / 48) claims) h [] l)
    ∙ at-row 48 (length claims / 48) h i claims (omega arith) (omega arith)

-- after h claims: what they leave of the pool
pub record Claiming (pool : ℕ) (f : ℕ → ℕ) (left h : ℕ) : Type 0 where
  pub sum : pool ≡ left + sum_to h f

module _ (pool : ℕ) (f : ℕ → ℕ) where
  pub claiming-none : Claiming pool f pool 0
  claiming-none = record { sum = omega (arith, sum_to-zero f) }

  module _ (left h x : ℕ) (r : Option ℕ) (s : Claiming pool f left h) (test : SomeIff r (x ≤ left) (left - x)) (is : x ≡ f h) where
    pub claiming-next : (next : ℕ) → r ≡ Some next → Claiming pool f next (h + 1)
    claiming-next next e =
        let fit : (x ≤ left) × (next ≡ left - x) = subst (λ o. SomeIff o (x ≤ left) (left - x)) e test in
        record { sum = omega (arith, fit.0, fit.1, is, s.sum, sum_to-more h f) }

    -- a claim that exceeds what is left of the pool
    pub claiming-over : (n : ℕ) (o : Option ℕ) → r ≡ None → h < n → o ≡ None → SomeIff o (sum_to n f ≤ pool) (sum_to n f)
    claiming-over n o e l none =
        let over : x ≤ left → ⊥ = subst (λ o. SomeIff o (x ≤ left) (left - x)) e test in
        rw none (λ within. over (omega (arith, within, is, s.sum, sum_to-more h f, sum_to-mono (h + 1) n f (omega arith))))

-- claims together within the pool are met whole
pub met-on : (i H total : ℕ) (pools claims weights grants after : List ℕ) → H ≤ 32 → at pools i ≤ 20000000 →
    all_to H (λ h. leb (at weights h) 100000000) ≡ true → (sum_to H (λ h. at_pair claims h i) ≤ at pools i) × (total ≡ sum_to H (λ h. at_pair claims h i)) →
    after ≡ fill_column i H (λ h. at_pair claims h i) grants →
    SharedOn i H pools claims weights grants (record { kw = total; passes = 0 }) after
met-on i H total pools claims weights grants after few small light t a =
    let all : total ≡ sum_to H (λ h. at_pair claims h i) = t.1 in
    let within : sum_to H (λ h. at_pair claims h i) ≤ at pools i = t.0 in
    let ranged : Ranged H (at pools i) (λ h. at_pair claims h i) (at weights) =
    record {
      few = few;
      pooled = small;
      claimed = λ h l. omega (arith, sum_to-term H (λ h. at_pair claims h i) h l);
      weighed = λ h l. leb-true (at weights h) 100000000 (all_to-each H (λ h. leb (at weights h) 100000000) light h l);
    } in
    let met : share_out_on H (at pools) (at_pair claims) (at weights) i ≡ record { answer = granted (sum_to H (λ h. at_pair claims h i)) 0; output = column claims H i } =
    among-fits H (at pools i) (λ h. at_pair claims h i) (at weights) ranged within in
    record {
      kw = rw (all, met);
      passes = rw met;
      column = a ∙ rw met (fill_column-same i H (λ h. at_pair claims h i) (at (column claims H i)) grants (λ h l. sym (at-tab H (λ h. at_pair claims h i) h l)));
    }

-- after i of I interties, with k kW in p passes
pub record Over (I H : ℕ) (pools claims weights first grants : List ℕ) (k p i : ℕ) : Type 0 where
  pub inside : i ≤ I
  pub size : length grants ≡ length first
  pub kw : k ≡ kw_over H (at pools) (at_pair claims) (at weights) i
  pub passes : p ≡ passes_over H (at pools) (at_pair claims) (at weights) i
  pub written : grants ≡ fill_table i H (grant_on H (at pools) (at_pair claims) (at weights)) first

module _ (I H : ℕ) (pools claims weights first : List ℕ) where
  -- the share-out on intertie i
  abbrev on : ℕ → Outcome
  on i = share_out_on H (at pools) (at_pair claims) (at weights) i

  pub over_none : Over I H pools claims weights first first 0 0 0
  over_none =
      record {
        inside = zero-le;
        size = refl;
        kw = sym (sum_to-zero (λ i. (on i).answer.kw));
        passes = sym (sum_to-zero (λ i. (on i).answer.passes));
        written = sym (fill_table-zero H (grant_on H (at pools) (at_pair claims) (at weights)) first);
      }

  -- the sums stay within 48 pools
  pub over-small : (grants : List ℕ) (k p i : ℕ) → Over I H pools claims weights first grants k p i → I ≤ 48 →
      (k ≤ 960000000) × (p ≤ 960000000)
  over-small grants k p i s few =
      let kw : k ≤ 960000000 = omega (arith, s.inside, s.kw, kw-most H (at pools) (at_pair claims) (at weights) i) in
      (kw, omega (arith, s.kw, s.passes, passes-most H (at pools) (at_pair claims) (at weights) i))

  -- and those with what any one intertie's share-out grants within 49
  pub over-fits : (grants after more : List ℕ) (k p i j : ℕ) (r : Granted) → Over I H pools claims weights first grants k p i → I ≤ 48 →
      SharedOn j H pools claims weights more r after → (k + r.kw ≤ 980000000) × (p + r.passes ≤ 980000000)
  over-fits grants after more k p i j r s few d =
      let so-far = over-small grants k p i s few in
      let one = kept_on H (at pools) (at_pair claims) (at weights) j in
      (omega (arith, so-far.0, d.kw, one.most), omega (arith, so-far.1, d.passes, one.counted, one.most))

  -- one intertie more
  module _ (grants after : List ℕ) (k p i : ℕ) (r : Granted) (s : Over I H pools claims weights first grants k p i) (l : i < I)
      (d : SharedOn i H pools claims weights grants r after) where
    kw-next : k + r.kw ≡ kw_over H (at pools) (at_pair claims) (at weights) (i + 1)
    kw-next = rw (s.kw, d.kw) (sym (sum_to-more i (λ i. (on i).answer.kw)))

    passes-next : p + r.passes ≡ passes_over H (at pools) (at_pair claims) (at weights) (i + 1)
    passes-next = rw (s.passes, d.passes) (sym (sum_to-more i (λ i. (on i).answer.passes)))

    pub over-next : Over I H pools claims weights first after (k + r.kw) (p + r.passes) (i + 1)
    over-next =
        record {
          inside = omega arith;
          size = ap (λ t. length t) d.column ∙ length-fill_column i (at (on i).output) grants H ∙ s.size;
          kw = kw-next;
          passes = passes-next;
          written = d.column ∙ rw s.written (sym (fill_table-more H (grant_on H (at pools) (at_pair claims) (at weights)) first i));
        }

  -- after all interties
  pub over-all : (grants : List ℕ) (k p i : ℕ) → Over I H pools claims weights first grants k p i → I ≤ i →
      (granted k p ≡ (over_interties H (at pools) (at_pair claims) (at weights) I first).answer)
      × (grants ≡ (over_interties H (at pools) (at_pair claims) (at weights) I first).output)
  over-all grants k p i s l =
      let end : i ≡ I = omega (arith, s.inside) in
      rw (← end) (rw (s.kw, s.passes), s.written)

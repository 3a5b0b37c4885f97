-- What is read of the same bytes is the same, whatever the cuts; for the law.
use Rattle.std.proofs.Common.{◌≡◌, ℕ, ◌≤◌, inl, inr, List, [], ◌++◌, length, take, refl, sym, ap, ◌∙◌, subst, arith, append-nil}
use Rattle.std.proofs.Common.{length-append, Option, None, Some, Result, Ok, Err}
use Rattle.std.specs.Prelude.{◌≢◌}
use Rattle.std.proofs.lemmas.List.{take-append-le}
use Rattle.ba_http_head.specs.declared.faults.HttpFault.{HttpFault}
use Rattle.ba_http_head.specs.declared.faults.HttpFault.TheVariants.{Memory, BadHead, Length as NoLength, TooLarge, BadChunk, Truncated}
use Rattle.ba_http_head.specs.declared.faults.HttpFault.TheVariants.{Read}
use Rattle.ba_http_head.specs.declared.headings.Heading.{Heading}
use Rattle.ba_http.specs.Messages.{HttpMessage, Decides, IsCutShort, EndsAtInput, MessageSo, Reads}
use Rattle.ba_http.proofs.OneMessage.{decides_once, decision_settles}
use Rattle.ba_http.proofs.AtInput.{one_at_input, whole_at_input, unfinished_at_input, cut_unfinished}

-- the ground of an answer, in all bytes of the link
data Ground (heading : Heading) (bytes : List ℕ) (answer : Result HttpMessage HttpFault) : Type 0 where
  decided : (n : ℕ) → n ≤ length bytes → Decides heading (take n bytes) answer → Ground heading bytes answer
  at_the_end : (message : HttpMessage) → answer ≡ Ok message → EndsAtInput heading bytes message → Ground heading bytes answer
  cut_short : answer ≡ Err Truncated → IsCutShort heading bytes → Ground heading bytes answer

module _ (heading : Heading) (bytes taken rest : List ℕ) (split : bytes ≡ taken ++ rest) where
  told : (answer : Result HttpMessage HttpFault) (n : ℕ) → n ≤ length taken → Decides heading (take n taken) answer
      → Ground heading bytes answer
  told answer n within decides =
      decided n (omega (arith, within, ap length split, length-append taken rest))
      (subst (λ v. Decides heading v answer) (sym (ap (take n) split ∙ take-append-le n taken rest within)) decides)

  all : rest ≡ [] → taken ≡ bytes
  all none = sym (append-nil taken) ∙ ap (λ v. taken ++ v) (sym none) ∙ sym split

  ground : (answer : Result HttpMessage HttpFault) → answer ≢ Err Memory → answer ≢ Err Read → MessageSo heading taken (Some rest) answer
      → Ground heading bytes answer
  ground (Ok message) memory read so =
      elim so [
        | inl d ↦ told (Ok message) d.0 d.1 d.2
        | inr e ↦ at_the_end message refl (subst (λ v. EndsAtInput heading v message) (all e.1) e.0)
      ]
  ground (Err Memory) memory read so = absurd (memory refl)
  ground (Err (BadHead place)) memory read so = told (Err (BadHead place)) so.0 so.1 so.2
  ground (Err NoLength) memory read so = told (Err NoLength) so.0 so.1 so.2
  ground (Err TooLarge) memory read so = told (Err TooLarge) so.0 so.1 so.2
  ground (Err (BadChunk place)) memory read so = told (Err (BadChunk place)) so.0 so.1 so.2
  ground (Err Truncated) memory read so = cut_short refl (subst (IsCutShort heading) (all so.1) so.0)
  ground (Err Read) memory read so = absurd (read refl)

ground_of : (heading : Heading) (bytes : List ℕ) (left : Option (List ℕ)) (answer : Result HttpMessage HttpFault)
    → Reads heading (Some bytes) left answer → answer ≢ Err Memory → answer ≢ Err Read → Ground heading bytes answer
ground_of heading bytes None answer r memory read = absurd r.2
ground_of heading bytes (Some rest) answer r memory read = ground heading bytes (r.0 ++ r.1) rest r.2 answer memory read r.5

abbrev ok_of : HttpMessage → Result HttpMessage HttpFault
ok_of message = Ok message

one_answer : (heading : Heading) (bytes : List ℕ) (a b : Result HttpMessage HttpFault) → Ground heading bytes a
    → Ground heading bytes b → a ≡ b
one_answer heading bytes a b (decided m x d) (decided n y e) = (decides_once heading bytes m n a b x y d e).1
one_answer heading bytes a b (decided m x d) (at_the_end w q e) =
    absurd (decision_settles heading bytes m a x d (unfinished_at_input heading bytes w e))
one_answer heading bytes a b (decided m x d) (cut_short q c) =
    absurd (decision_settles heading bytes m a x d (cut_unfinished heading bytes c))
one_answer heading bytes a b (at_the_end v p d) (decided n y e) =
    absurd (decision_settles heading bytes n b y e (unfinished_at_input heading bytes v d))
one_answer heading bytes a b (at_the_end v p d) (at_the_end w q e) = p ∙ ap ok_of (one_at_input heading bytes v w d e) ∙ sym q
one_answer heading bytes a b (at_the_end v p d) (cut_short q c) = absurd (whole_at_input heading bytes v d c)
one_answer heading bytes a b (cut_short p c) (decided n y e) =
    absurd (decision_settles heading bytes n b y e (cut_unfinished heading bytes c))
one_answer heading bytes a b (cut_short p c) (at_the_end w q e) = absurd (whole_at_input heading bytes w e c)
one_answer heading bytes a b (cut_short p c) (cut_short q d) = p ∙ sym q

pub any_cuts : (heading : Heading) (bytes : List ℕ) (one other : Option (List ℕ)) (a b : Result HttpMessage HttpFault)
    → Reads heading (Some bytes) one a → Reads heading (Some bytes) other b
    → a ≢ Err Memory → a ≢ Err Read → b ≢ Err Memory → b ≢ Err Read → a ≡ b
any_cuts heading bytes one other a b first second am ar bm br =
    one_answer heading bytes a b (ground_of heading bytes one a first am ar) (ground_of heading bytes other b second bm br)

-- At empty lines before a head nothing has shown itself, so the parser needn't be asked there; for ask_after.
use Rattle.std.proofs.Common.{◌≡◌, ℕ, true, List, [], ◌∷◌, ◌++◌, refl, sym, ap, subst, arith, None}
use Rattle.std.specs.Prelude.{codes}
use Rattle.std.specs.Char.{is_ascii_digit}
use Rattle.std.proofs.lemmas.List.Elements.{All-nil, All-cons}
use Rattle.httparse.specs.Grammar.{AllPass, is_token_byte, is_uri_byte, is_value_byte, LineEnd, lf, print_blank, RequestHead, ReadsRequest}
use Rattle.httparse.specs.Grammar.{IsRequestHead, ResponseHead, ReadsResponse, IsResponseHead, IsField}
use Rattle.ba_http_head.specs.declared.headings.Heading.TheVariants.{Request, Reply}
use Rattle.ba_http_head.specs.inside.Asks.{HasWhole}
use Rattle.ba_http_head.specs.HeadLines.{filled_lines, NeverWhole}
use Rattle.httparse.proofs.GrammarLemmas.{print_request-append, print_response-append}
use Rattle.ba_http_head.proofs.LineLemmas.{filled_append}
use Rattle.ba_http_head.proofs.LookLemmas.{whole_ends}
use Rattle.ba_http_head.proofs.Printed.{request_counts, response_counts}

-- some head goes on with empty lines
pub may_follow : (ends : List LineEnd) → ¬ (NeverWhole Request (print_blank ends))
unfolding is_token_byte lib.Utf8.encode
may_follow ends never =
    let h : RequestHead = record { blank = ends; method = 65 ∷ []; target = 47 ∷ []; minor = 1; line_end = lf; fields = []; last = lf } in
    let more = codes "A / HTTP/1.1" ++ 10 ∷ 10 ∷ [] in
    let is : IsRequestHead h = record {
      method = (omega arith, All-cons (λ b. is_token_byte b ≡ true) 65 [] refl (All-nil (λ b. is_token_byte b ≡ true)));
      target = (omega arith, All-cons (λ b. is_uri_byte b ≡ true) 47 [] refl (All-nil (λ b. is_uri_byte b ≡ true)));
      target_text = (47 ∷ [], (refl, refl));
      minor = omega arith;
      fields = All-nil IsField;
    } in
    never more h [] (is, sym (print_request-append h []))

-- no head is all empty lines
pub none_whole : (bytes : List ℕ) → filled_lines bytes ≡ 0 → ¬ (HasWhole Request bytes)
none_whole bytes none has =
    let h = has.3.0 in
    let reads = has.3.1 in
    let count = request_counts h [] (subst (λ v. ReadsRequest v h []) reads.1 reads) in
    let all = filled_append has.0 has.1 (whole_ends Request has.0 has.3) in
    omega (arith, none, ap filled_lines has.2, all, ap filled_lines reads.1, count)

-- some head of a reply goes on with empty lines
pub reply_may_follow : (ends : List LineEnd) → ¬ (NeverWhole Reply (print_blank ends))
reply_may_follow ends never =
    let h : ResponseHead = record { blank = ends; minor = 1; digits = codes "200"; reason = None; line_end = lf; fields = []; last = lf } in
    let more = codes "HTTP/1.1 200" ++ 10 ∷ 10 ∷ [] in
    let d : (n : ℕ) → is_ascii_digit n ≡ true → (xs : List ℕ) → AllPass is_ascii_digit xs → AllPass is_ascii_digit (n ∷ xs) =
    λ n is xs all. All-cons (λ b. is_ascii_digit b ≡ true) n xs is all in
    let is : IsResponseHead h = record {
      minor = omega arith;
      digits = (refl, d 50 refl (48 ∷ 48 ∷ []) (d 48 refl (48 ∷ []) (d 48 refl [] (All-nil (λ b. is_ascii_digit b ≡ true)))));
      reason = All-nil (λ b. is_value_byte b ≡ true);
      fields = All-nil IsField;
    } in
    never more h [] (is, sym (print_response-append h []))

-- no head of a reply is all empty lines
pub reply_none_whole : (bytes : List ℕ) → filled_lines bytes ≡ 0 → ¬ (HasWhole Reply bytes)
reply_none_whole bytes none has =
    let h = has.3.0 in
    let reads = has.3.1 in
    let count = response_counts h [] (subst (λ v. ReadsResponse v h []) reads.1 reads) in
    let all = filled_append has.0 has.1 (whole_ends Reply has.0 has.3) in
    omega (arith, none, ap filled_lines has.2, all, ap filled_lines reads.1, count)

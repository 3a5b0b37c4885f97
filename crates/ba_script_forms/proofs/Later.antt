-- Words that differ, for what may come after a new scope's kind and after the name of the scope above it.
use Rattle.std.proofs.Common.{◌≡◌, ℕ, List, false, ap, codes}
use Rattle.ba_script_forms.specs.Grammar.{fits, the}

pub under_is_no_expires : (word : List ℕ) → word ≡ codes "expires" → fits (the (codes "under")) word ≡ false
unfolding fits
under_is_no_expires word is = ap (fits (the (codes "under"))) is

pub expires_is_no_cc : (word : List ℕ) → word ≡ codes "expires" → fits (the (codes "cc")) word ≡ false
unfolding fits
expires_is_no_cc word is = ap (fits (the (codes "cc"))) is

-- A number is of digits, and small.
use Rattle.std.proofs.Common.{◌≡◌, ℕ, ◌≤◌, true, ◌&&◌, List, nat_le}
use Rattle.std.proofs.lemmas.Bool.{leb-true}
use Rattle.std.specs.Cmp.{first_so, second_so}
use Rattle.std.specs.List.{list_all}
use Rattle.std.specs.Str.Parse.{digits_value}
use Rattle.ba_tree.specs.Names.{is_digit}
use Rattle.ba_soap_shapes.specs.declared.forms.TheConstants.{MOST_NUMBER}
use Rattle.ba_soap_shapes.specs.Forms.{is_number, is_there}

-- digits that write a number that is small
are_small_digits : (text : List ℕ) → is_number text ≡ true → (list_all is_digit text && nat_le (digits_value 10 text) MOST_NUMBER) ≡ true
are_small_digits text h = second_so (is_there text) (list_all is_digit text && nat_le (digits_value 10 text) MOST_NUMBER) h

pub are_digits : (text : List ℕ) → is_number text ≡ true → list_all is_digit text ≡ true
are_digits text h = first_so (list_all is_digit text) (nat_le (digits_value 10 text) MOST_NUMBER) (are_small_digits text h)

pub number_is : (text : List ℕ) → is_number text ≡ true → digits_value 10 text ≤ MOST_NUMBER
number_is text h =
    let small = second_so (list_all is_digit text) (nat_le (digits_value 10 text) MOST_NUMBER) (are_small_digits text h) in
    leb-true (digits_value 10 text) MOST_NUMBER small

-- Digits that are read from the left.
use Rattle.command_words.proofs.Prelude.{◌≡◌, ℕ, zero, suc, ◌+◌, ◌-◌, ◌*◌, ◌^◌, ◌<◌, ◌≤◌, List, [], ◌∷◌, length, get_or, refl, sym, ap, ◌∙◌, arith, IsShortNumeral, continued, numeral_value}
use Rattle.csp_base.specs.Standard.{decimal, IsInRange}
use Rattle.csp_base.proofs.Standard.{decimal-digits_value, digits_decimal, digits_value-decimal, first_decimal, decimal_nonempty, length-decimal-le, decimal_digit, FoldsDigits, IsNumeralModel, digits_value_short, numerals_by_fold, tells_by_index}

abbrev AreDigits : List ℕ → Type 0
AreDigits ds = (i : ℕ) → i < length ds → IsInRange 48 57 (get_or ds i 0)

-- digits never make a number smaller
pub continued_grows : (n : ℕ) (digits : List ℕ) → n ≤ continued n digits
continued_grows n [] = omega arith
continued_grows n (d ∷ digits) = let more = continued_grows (n * 10 + (d - 48)) digits in omega arith

folds : FoldsDigits continued
folds = record { empty = λ n. refl; more = λ n c cs h. refl }

own : IsNumeralModel AreDigits (continued 0)
own = numerals_by_fold AreDigits tells_by_index continued folds

pub numeral_is_small : (word : List ℕ) → IsShortNumeral word → numeral_value word < 1000000
numeral_is_small word is = let few : continued 0 word < 10 ^ 6 = digits_value_short own word 6 is.digits is.short in few

pub numeral_is_decimal : (word : List ℕ) → IsShortNumeral word → word ≡ decimal (numeral_value word)
numeral_is_decimal word is =
    let few = numeral_is_small word is in
    sym (decimal-digits_value own word is.digits is.plain.some is.plain.front (omega arith))

-- no leading zero
front_of : (n : ℕ) → n < 1000000 → get_or (decimal n) 0 0 ≡ 48 → length (decimal n) ≡ 1
front_of zero few front = ap length (decimal_digit 0 (omega arith))
front_of (suc n) few front = absurd (let above = first_decimal (suc n) (omega arith) (omega arith) in omega arith)

pub decimal_is_numeral : (n : ℕ) (word : List ℕ) → n < 1000000 → word ≡ decimal n → IsShortNumeral word
decimal_is_numeral n word few is = record {
  short = let short = length-decimal-le 6 n (omega arith) (omega arith) (omega arith) in rw is short;
  plain = record { some = rw is (decimal_nonempty n (omega arith)); front = rw is (front_of n few) };
  digits = rw is (digits_decimal own n (omega arith));
}

pub same_number : (m n : ℕ) → m < 1000000 → n < 1000000 → decimal m ≡ decimal n → m ≡ n
same_number m n low high is = sym (digits_value-decimal own m (omega arith)) ∙ ap (continued 0) is ∙ digits_value-decimal own n (omega arith)

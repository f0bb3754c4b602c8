-- Values from outside, so that a wrong rule in the definitions does not check: numbers as the texts of versions write them, the item at
-- the front of a text, and what its bytes stand for.
use Rattle.std.proofs.Common.{◌≡◌, refl, [], codes, Some, None, true, false}
use Rattle.std.specs.Fmt.{digits}
use Rattle.std.specs.Str.{is_utf8, chars}
use lib.Utf8.{encode}
use Rattle.lab_forms_texts.specs.Names.{is_key, is_note}
use Rattle.lab_seal.specs.Reading.{number_written, line_of, first_item, first_as, text_where, this_word, which_word, ordinal_in, reason_in}

-- decimal digits without leading zeros, below 2^64
pub known_numbers : (number_written (codes "0") ≡ Some 0) × (number_written (codes "142") ≡ Some 142)
    × (number_written (codes "18446744073709551615") ≡ Some 18446744073709551615)
    × (number_written (codes "18446744073709551616") ≡ None)
    × (number_written (codes "05") ≡ None) × (number_written (codes "") ≡ None) × (number_written (codes "5a") ≡ None) × (number_written (codes "-5") ≡ None)
unfolding number_written digits
known_numbers = (refl, refl, refl, refl, refl, refl, refl, refl)

-- how many bytes it has, a colon, the bytes, and a line feed
pub known_items : (first_item (codes "5:water\n1:1\n") ≡ Some (codes "water", codes "1:1\n"))
    × (first_item (codes "0:\n3:dan\n") ≡ Some ([], codes "3:dan\n"))
    × (first_item (codes "7:a\nb:c\\d\n") ≡ Some (codes "a\nb:c\\d", []))
    × (first_item (codes "05:water\n") ≡ None) × (first_item (codes "4:water\n") ≡ None) × (first_item (codes "6:water\n") ≡ None)
    × (first_item (codes "5:water") ≡ None) × (first_item (codes "water\n") ≡ None) × (first_item [] ≡ None)
unfolding first_item line_of number_written digits
known_items = (refl, refl, refl, refl, refl, refl, refl, refl, refl)

pub known_words : (this_word (codes "-") (codes "-") ≡ Some tt) × (this_word (codes "-") (codes "") ≡ None)
    × (which_word (codes "yes") (codes "no") (codes "yes") ≡ Some true) × (which_word (codes "yes") (codes "no") (codes "no") ≡ Some false)
    × (which_word (codes "yes") (codes "no") (codes "Yes") ≡ None)
known_words = (refl, refl, refl, refl, refl)

pub known_ordinals : (ordinal_in (codes "1") ≡ Some 1) × (ordinal_in (codes "1000000000") ≡ Some 1000000000)
    × (ordinal_in (codes "0") ≡ None) × (ordinal_in (codes "1000000001") ≡ None) × (ordinal_in (codes "01") ≡ None)
unfolding number_written digits
known_ordinals = (refl, refl, refl, refl, refl)

-- a reason is a note or nothing: no control character but the line feed
pub known_reasons : (reason_in (codes "") ≡ Some None) × (reason_in (codes "blurred") ≡ Some (Some (codes "blurred")))
    × (reason_in (codes "two\nlines") ≡ Some (Some (codes "two\nlines")))
    × (reason_in (codes "a\tb") ≡ None)
unfolding is_note is_utf8 chars encode
known_reasons = (refl, refl, refl, refl)

pub known_texts : (first_as (text_where is_key) (codes "4:lead\n4:7.50\n") ≡ Some (codes "lead", codes "4:7.50\n"))
    × (first_as (text_where is_key) (codes "4:Lead\n4:7.50\n") ≡ None)
unfolding first_as first_item line_of number_written digits is_key is_utf8 chars encode
known_texts = (refl, refl)

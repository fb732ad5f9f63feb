-- What is written of a text is a word, and no longer than a word that it was read from.
use Rattle.std.proofs.Common.{◌≡◌, ℕ, suc, ◌+◌, ◌*◌, ◌/◌, ◌%◌, ◌^◌, ◌<◌, ◌≤◌, Bool, true, false, List, [], ◌∷◌, ◌++◌, length, Option, None, Some, decimal, refl, sym, ap, subst, length-append, arith}
use Rattle.std.specs.Prelude.{◌&&◌, ◌==◌, nat_le, nat_lt, not, ◌||◌, if◌then◌else◌, ⊤, All, codes, bytes_eq}
use Rattle.std.specs.Char.{digit_value, is_ascii_digit, is_ascii_hexdigit}
use Rattle.std.specs.Int.{is_in_range}
use Rattle.std.specs.Fmt.{digit_glyph}
use Rattle.std.specs.List.{list_all, flat_map}
use Rattle.std.specs.Str.Parse.{AllDigits}
use Rattle.std.proofs.lemmas.Bool.{leb-true, le-ltb, lt-ltb, le-leb, ne_eqb}
use Rattle.std.proofs.lemmas.Slice.Eq.{bytes_eq-Decides}
use Rattle.std.proofs.lemmas.Fmt.{decimal_is_IsNumeral_wide, length-decimal-le_wide}
use Rattle.std.proofs.lemmas.Int.Digits.{digits_value-lt}
use Rattle.std.proofs.lemmas.List.Elements.{All-cons}
use Rattle.std.proofs.lemmas.Str.Parse.{digit_from_value}
use Rattle.std.proofs.lemmas.Str.{digit_value_digit}
use Rattle.rack_text.specs.Escaped.{is_plain, plain_byte, letter_byte, hex_byte, before, spelled_some, unescaped}
use Rattle.rack_text.specs.Escaped as text
use Rattle.rack_text.specs.Decimal.{is_decimal, decimal_value, decimal_number}
use Rattle.rack_text.proofs.CallerLemmas.{escaped_read}

both : (a b : Bool) → a && b ≡ true → (a ≡ true) × (b ≡ true)
both true b e = (refl, e)
both false b e = cc e

-- each byte may stand in a word
abbrev pub AllVisible : List ℕ → Type 0
AllVisible [] = ⊤
AllVisible (b ∷ bytes) = ((33 ≤ b) × (b ≤ 126)) × AllVisible bytes

pub record IsWord (word : List ℕ) : Type 0 where
  pub some : 0 < length word
  pub visible : AllVisible word

visible_append : (xs ys : List ℕ) → AllVisible xs → AllVisible ys → AllVisible (xs ++ ys)
visible_append [] ys h k = k
visible_append (x ∷ xs) ys h k = (h.0, visible_append xs ys h.1 k)

pick_visible : (c : Bool) (x y : List ℕ) → (c ≡ true → AllVisible x) → AllVisible y → AllVisible (if c then x else y)
pick_visible true x y h k = h refl
pick_visible false x y h k = k

plain_visible : (b : ℕ) → is_plain b ≡ true → (33 ≤ b) × (b ≤ 126)
plain_visible b e =
    let parts = both (nat_le 33 b && nat_le b 126) (not (b == 92)) e in
    let more = both (nat_le 33 b) (nat_le b 126) parts.0 in
    (leb-true 33 b more.0, leb-true b 126 more.1)

glyph_visible : (d : ℕ) → d < 16 → (33 ≤ digit_glyph false d) × (digit_glyph false d ≤ 126)
glyph_visible d h = by_ten (nat_lt d 10)
  where
    by_ten : (c : Bool) → (33 ≤ (if c then 48 + d else 87 + d)) × ((if c then 48 + d else 87 + d) ≤ 126)
    by_ten true = (omega arith, omega (arith, h))
    by_ten false = (omega arith, omega (arith, h))

escape_visible : (c : ℕ) → 33 ≤ c → c ≤ 126 → AllVisible (92 ∷ c ∷ [])
escape_visible c h k = ((omega arith, omega arith), ((h, k), tt))

spelling_visible : (b : ℕ) → b < 256 → AllVisible (text.spelling b)
unfolding text.spelling
spelling_visible b h =
    let high : b / 16 < 16 = omega (arith, h) in
    let low : b % 16 < 16 = omega arith in
    pick_visible (is_plain b) (b ∷ []) _ (λ e. (plain_visible b e, tt))
    (pick_visible (b == 32) _ _ (λ e. escape_visible 115 (omega arith) (omega arith))
    (pick_visible (b == 10) _ _ (λ e. escape_visible 110 (omega arith) (omega arith))
    (pick_visible (b == 13) _ _ (λ e. escape_visible 114 (omega arith) (omega arith))
    (pick_visible (b == 92) _ _ (λ e. escape_visible 92 (omega arith) (omega arith))
    ((omega arith, omega arith), ((omega arith, omega arith), (glyph_visible (b / 16) high, (glyph_visible (b % 16) low, tt))))))))

pick_size : (c : Bool) (x y : List ℕ) (k : ℕ) → length x ≤ k → length y ≤ k → length (if c then x else y) ≤ k
pick_size true x y k h e = h
pick_size false x y k h e = e

spelling_size : (b : ℕ) → length (text.spelling b) ≤ 4
unfolding text.spelling
spelling_size b =
    pick_size (is_plain b) (b ∷ []) _ 4 (omega arith)
    (pick_size (b == 32) _ _ 4 (omega arith)
    (pick_size (b == 10) _ _ 4 (omega arith)
    (pick_size (b == 13) _ _ 4 (omega arith)
    (pick_size (b == 92) _ _ 4 (omega arith) (omega arith)))))

spelling_plain : (b : ℕ) → is_plain b ≡ true → length (text.spelling b) ≤ 1
unfolding text.spelling
spelling_plain b e = rw e (omega arith)

spelling_letter : (c b : ℕ) → letter_byte c ≡ Some b → (length (text.spelling b) ≤ 2) × (b < 256)
unfolding text.spelling
spelling_letter c b e = by_space (c == 115) e
  where
    two : (x : ℕ) → Some x ≡ Some b → length (text.spelling x) ≤ 2 → x < 256 → (length (text.spelling b) ≤ 2) × (b < 256)
    two x same size small = let is : x ≡ b = cc same in subst (λ (y : ℕ). (length (text.spelling y) ≤ 2) × (y < 256)) is (size, small)

    by_slash : (s : Bool) → (if s then Some 92 else None) ≡ Some b → (length (text.spelling b) ≤ 2) × (b < 256)
    by_slash true f = two 92 f (omega arith) (omega arith)
    by_slash false f = cc f

    by_return : (s : Bool) → (if s then Some 13 else if c == 92 then Some 92 else None) ≡ Some b → (length (text.spelling b) ≤ 2) × (b < 256)
    by_return true f = two 13 f (omega arith) (omega arith)
    by_return false f = by_slash (c == 92) f

    by_feed : (s : Bool) → (if s then Some 10 else if c == 114 then Some 13 else if c == 92 then Some 92 else None) ≡ Some b → (length (text.spelling b) ≤ 2) × (b < 256)
    by_feed true f = two 10 f (omega arith) (omega arith)
    by_feed false f = by_return (c == 114) f

    by_space : (s : Bool) → (if s then Some 32 else if c == 110 then Some 10 else if c == 114 then Some 13 else if c == 92 then Some 92 else None) ≡ Some b → (length (text.spelling b) ≤ 2) × (b < 256)
    by_space true f = two 32 f (omega arith) (omega arith)
    by_space false f = by_feed (c == 110) f

-- the bytes are bytes
abbrev pub AllBytes : List ℕ → Type 0
AllBytes [] = ⊤
AllBytes (b ∷ bytes) = (b < 256) × AllBytes bytes

pub all_bytes : (bytes : List ℕ) → AllBytes bytes → All (λ b. b < 256) bytes
all_bytes [] h = λ k d l. absurd (omega (arith, l))
all_bytes (b ∷ bytes) h = All-cons (λ x. x < 256) b bytes h.0 (all_bytes bytes h.1)

-- a text that was read from so many bytes
pub record Short (n : ℕ) (read : List ℕ) : Type 0 where
  pub size : length (flat_map text.spelling read) ≤ n
  pub count : length read ≤ n
  pub bytes : AllBytes read
  pub some : 0 < n → 0 < length read

one_more : (k n b : ℕ) (read : List ℕ) → 1 ≤ k → length (text.spelling b) ≤ k → b < 256 → Short n read → Short (k + n) (b ∷ read)
one_more k n b read some h small s =
    let size = s.size in
    let count = s.count in
    record {
      size = omega (arith, h, size, length-append (text.spelling b) (flat_map text.spelling read));
      count = omega (arith, count, some);
      bytes = (small, s.bytes);
      some = λ h. omega arith;
    }

pub record FirstRead (o : Option ℕ) (r : Option (List ℕ)) (read : List ℕ) : Type 0 where
  pub first : ℕ
  pub rest : List ℕ
  pub first_is : o ≡ Some first
  pub rest_is : r ≡ Some rest
  pub read_is : first ∷ rest ≡ read

before_read : (o : Option ℕ) (r : Option (List ℕ)) (read : List ℕ) → before o r ≡ Some read → FirstRead o r read
before_read None r read e = cc e
before_read (Some b) None read e = cc e
before_read (Some b) (Some bytes) read e = record { first = b; rest = bytes; first_is = refl; rest_is = refl; read_is = cc e }

first_short : (k n : ℕ) (o : Option ℕ) (r : Option (List ℕ)) (read : List ℕ) → 1 ≤ k → ((b : ℕ) → o ≡ Some b → (length (text.spelling b) ≤ k) × (b < 256)) → ((u : List ℕ) → r ≡ Some u → Short n u) → before o r ≡ Some read → Short (k + n) read
first_short k n o r read some f g e =
    let w = before_read o r read e in
    let h = f w.first w.first_is in
    subst (λ (x : List ℕ). Short (k + n) x) w.read_is (one_more k n w.first w.rest some h.0 h.1 (g w.rest w.rest_is))

plain_first : (b c : ℕ) → plain_byte b ≡ Some c → (length (text.spelling c) ≤ 1) × (c < 256)
plain_first b c e = by_plain (is_plain b) refl e
  where
    by_plain : (p : Bool) → is_plain b ≡ p → (if p then Some b else None) ≡ Some c → (length (text.spelling c) ≤ 1) × (c < 256)
    by_plain true is f =
        let same : b ≡ c = cc f in
        let visible = plain_visible b is in
        let small : b < 256 = omega (arith, visible) in
        subst (λ (x : ℕ). (length (text.spelling x) ≤ 1) × (x < 256)) same (spelling_plain b is, small)
    by_plain false is f = cc f

hex_small : (c : ℕ) → is_ascii_hexdigit c ≡ true → digit_value c < 16
hex_small c e = by_range (is_in_range 48 57 c) (is_in_range 65 70 c) (is_in_range 97 102 c) refl refl refl e
  where
    by_range : (x y z : Bool) → is_in_range 48 57 c ≡ x → is_in_range 65 70 c ≡ y → is_in_range 97 102 c ≡ z → (x || y) || z ≡ true → digit_value c < 16
    by_range true y z f g h k =
        let r = both (nat_le 48 c) (nat_le c 57) f in
        let low = leb-true 48 c r.0 in
        let high = leb-true c 57 r.1 in
        rw (le-ltb c 48 low) (rw (lt-ltb c 58 (omega (arith, high))) (omega (arith, low, high)))
    by_range false true z f g h k =
        let r = both (nat_le 65 c) (nat_le c 70) g in
        let low = leb-true 65 c r.0 in
        let high = leb-true c 70 r.1 in
        rw (le-ltb c 48 (omega (arith, low))) (rw (le-ltb c 58 (omega (arith, low))) (rw (le-ltb c 65 low) (rw (lt-ltb c 91 (omega (arith, high))) (omega (arith, low, high)))))
    by_range false false true f g h k =
        let r = both (nat_le 97 c) (nat_le c 102) h in
        let low = leb-true 97 c r.0 in
        let high = leb-true c 102 r.1 in
        rw (le-ltb c 48 (omega (arith, low))) (rw (le-ltb c 58 (omega (arith, low))) (rw (le-ltb c 65 (omega (arith, low))) (rw (le-ltb c 91 (omega (arith, low))) (rw (le-ltb c 97 low) (rw (lt-ltb c 123 (omega (arith, high))) (omega (arith, low, high)))))))
    by_range false false false f g h k = cc k

hex_first : (high low b : ℕ) → hex_byte high low ≡ Some b → (length (text.spelling b) ≤ 4) × (b < 256)
hex_first high low b e = by_digits (is_ascii_hexdigit high && is_ascii_hexdigit low) refl e
  where
    by_digits : (d : Bool) → is_ascii_hexdigit high && is_ascii_hexdigit low ≡ d → (if d then Some (digit_value high * 16 + digit_value low) else None) ≡ Some b → (length (text.spelling b) ≤ 4) × (b < 256)
    by_digits true is f =
        let digits = both (is_ascii_hexdigit high) (is_ascii_hexdigit low) is in
        let h = hex_small high digits.0 in
        let l = hex_small low digits.1 in
        let same : digit_value high * 16 + digit_value low ≡ b = cc f in
        (spelling_size b, omega (arith, h, l, same))
    by_digits false is f = cc f

more_short : (n m : ℕ) (read : List ℕ) → n ≡ m → Short n read → Short m read
more_short n m read h s = subst (λ (k : ℕ). Short k read) h s

nothing_short : (read : List ℕ) → Some [] ≡ Some read → Short 0 read
nothing_short read e = let same : [] ≡ read = cc e in subst (λ (x : List ℕ). Short 0 x) same (record { size = omega arith; count = omega arith; bytes = tt; some = λ h. absurd (omega (arith, h)) })

next_short : (slash : Bool) (b : ℕ) (rest read : List ℕ) → ((u : List ℕ) → text.spelled rest ≡ Some u → Short (length rest) u) → ((u : List ℕ) → text.spelled_behind rest ≡ Some u → Short (suc (length rest)) u)
    → (if slash then text.spelled_behind rest else before (plain_byte b) (text.spelled rest)) ≡ Some read → Short (suc (length rest)) read
next_short true b rest read f g e = g read e
next_short false b rest read f g e = more_short (1 + length rest) (suc (length rest)) read (omega arith) (first_short 1 (length rest) (plain_byte b) (text.spelled rest) read (omega arith) (plain_first b) f e)

behind_short : (x : Bool) (c : ℕ) (rest read : List ℕ) → ((u : List ℕ) → text.spelled rest ≡ Some u → Short (length rest) u) → ((u : List ℕ) → text.spelled_hex rest ≡ Some u → Short (suc (suc (length rest))) u)
    → (if x then text.spelled_hex rest else before (letter_byte c) (text.spelled rest)) ≡ Some read → Short (suc (suc (length rest))) read
behind_short true c rest read f g e = g read e
behind_short false c rest read f g e = more_short (2 + length rest) (suc (suc (length rest))) read (omega arith) (first_short 2 (length rest) (letter_byte c) (text.spelled rest) read (omega arith) (spelling_letter c) f e)

hex_short : (high low : ℕ) (rest read : List ℕ) → ((u : List ℕ) → text.spelled rest ≡ Some u → Short (length rest) u) → before (hex_byte high low) (text.spelled rest) ≡ Some read → Short (suc (suc (suc (suc (length rest))))) read
hex_short high low rest read f e = more_short (4 + length rest) (suc (suc (suc (suc (length rest))))) read (omega arith) (first_short 4 (length rest) (hex_byte high low) (text.spelled rest) read (omega arith) (hex_first high low) f e)

mutual
  unfolding text.spelled

  spelled_short : (word read : List ℕ) → text.spelled word ≡ Some read → Short (length word) read
  spelled_short [] read e = nothing_short read e
  spelled_short (b ∷ rest) read e = next_short (b == 92) b rest read (spelled_short rest) (spelled_behind_short rest) e

  spelled_behind_short : (word read : List ℕ) → text.spelled_behind word ≡ Some read → Short (suc (length word)) read
  spelled_behind_short [] read e = cc e
  spelled_behind_short (c ∷ rest) read e = behind_short (c == 120) c rest read (spelled_short rest) (spelled_hex_short rest) e

  spelled_hex_short : (word read : List ℕ) → text.spelled_hex word ≡ Some read → Short (suc (suc (length word))) read
  spelled_hex_short [] read e = cc e
  spelled_hex_short (high ∷ []) read e = cc e
  spelled_hex_short (high ∷ low ∷ rest) read e = hex_short high low rest read (spelled_short rest) e

-- what is written of a text is no longer than the word that it was read from
written_short : (n : ℕ) (read : List ℕ) → 0 < n → Short n read → length (text.escaped read) ≤ n
unfolding text.escaped
written_short n [] more s = absurd (omega (arith, s.some more))
written_short n (b ∷ read) more s = s.size

pub record IsShort (word read : List ℕ) : Type 0 where
  pub size : length (text.escaped read) ≤ length word
  pub count : length read ≤ length word
  pub bytes : AllBytes read

empty_short : IsShort (codes "\\e") []
unfolding text.escaped
empty_short = record { size = omega arith; count = omega arith; bytes = tt }

some_short : (word read : List ℕ) → spelled_some word ≡ Some read → IsShort word read
some_short [] read e = cc e
some_short (b ∷ rest) read e =
    let s = spelled_short (b ∷ rest) read e in
    record { size = written_short (suc (length rest)) read (omega arith) s; count = s.count; bytes = s.bytes }

pub escaped_short : (word read : List ℕ) → unescaped word ≡ Some read → IsShort word read
escaped_short word read e = by_empty (bytes_eq word (codes "\\e")) refl e
  where
    by_empty : (c : Bool) → bytes_eq word (codes "\\e") ≡ c → (if c then Some [] else spelled_some word) ≡ Some read → IsShort word read
    by_empty true is f =
        let whole : word ≡ codes "\\e" = (bytes_eq-Decides word (codes "\\e")).0 is in
        let none : [] ≡ read = cc f in
        subst (λ (w : List ℕ). IsShort w read) (sym whole) (subst (λ (r : List ℕ). IsShort (codes "\\e") r) none empty_short)
    by_empty false is f = some_short word read f

spellings_visible : (read : List ℕ) → AllBytes read → AllVisible (flat_map text.spelling read)
spellings_visible [] h = tt
spellings_visible (b ∷ read) h = visible_append (text.spelling b) (flat_map text.spelling read) (spelling_visible b h.0) (spellings_visible read h.1)

pick_some : (c : Bool) (x y : List ℕ) → 0 < length x → 0 < length y → 0 < length (if c then x else y)
pick_some true x y h k = h
pick_some false x y h k = k

spelling_some : (b : ℕ) → 0 < length (text.spelling b)
unfolding text.spelling
spelling_some b =
    pick_some (is_plain b) (b ∷ []) _ (omega arith)
    (pick_some (b == 32) _ _ (omega arith)
    (pick_some (b == 10) _ _ (omega arith)
    (pick_some (b == 13) _ _ (omega arith)
    (pick_some (b == 92) _ _ (omega arith) (omega arith)))))

-- what is written of bytes is a word, which is read again
pub escaped_word : (read : List ℕ) → AllBytes read → IsWord (text.escaped read)
unfolding text.escaped
escaped_word [] h = record { some = omega arith; visible = ((omega arith, omega arith), ((omega arith, omega arith), tt)) }
escaped_word (b ∷ read) h =
    let some = spelling_some b in
    record { some = omega (arith, some, length-append (text.spelling b) (flat_map text.spelling read)); visible = spellings_visible (b ∷ read) h }

pub escaped_again : (read : List ℕ) → AllBytes read → unescaped (text.escaped read) ≡ Some read
escaped_again read h = escaped_read read (all_bytes read h)

-- numbers
number_parts : (t : List ℕ) (n : ℕ) → decimal_number t ≡ Some n → (is_decimal t ≡ true) × (decimal_value t ≡ n)
number_parts t n e = by_form (is_decimal t && nat_lt (decimal_value t) (2 ^ 128)) refl e
  where
    by_form : (c : Bool) → is_decimal t && nat_lt (decimal_value t) (2 ^ 128) ≡ c → (if c then Some (decimal_value t) else None) ≡ Some n → (is_decimal t ≡ true) × (decimal_value t ≡ n)
    by_form true is f = ((both (is_decimal t) (nat_lt (decimal_value t) (2 ^ 128)) is).0, cc f)
    by_form false is f = cc f

all_digits : (t : List ℕ) → list_all is_ascii_digit t ≡ true → AllDigits 10 t
all_digits [] e = tt
all_digits (c ∷ t) e =
    let parts = both (is_ascii_digit c) (list_all is_ascii_digit t) e in
    let range = both (nat_le 48 c) (nat_le c 57) parts.0 in
    let low = leb-true 48 c range.0 in
    let high = leb-true c 57 range.1 in
    let value = digit_value_digit c (low, high) in
    (omega (arith, value, high), all_digits t parts.1)

-- a number is written no longer than it was read
pub decimal_short : (t : List ℕ) (n : ℕ) → decimal_number t ≡ Some n → n < 10 ^ 64 → length (decimal n) ≤ length t
decimal_short t n e small =
    let parts = number_parts t n e in
    let form = both (nat_lt 0 (length t)) (list_all is_ascii_digit t) parts.0 in
    let some : 0 < length t = leb-true 1 (length t) form.0 in
    let less : decimal_value t < 10 ^ length t = digits_value-lt 10 t (all_digits t form.1) in
    length-decimal-le_wide (length t) n some (subst (λ (k : ℕ). k < 10 ^ length t) parts.1 less) small

digits_visible : (t : List ℕ) → AllDigits 10 t → AllVisible t
digits_visible [] h = tt
digits_visible (c ∷ t) h = let range = digit_from_value c h.0 in ((omega (arith, range), omega (arith, range)), digits_visible t h.1)

pub decimal_word : (n : ℕ) → n < 10 ^ 64 → IsWord (decimal n)
decimal_word n small = let written = decimal_is_IsNumeral_wide n small in record { some = written.0.0; visible = digits_visible (decimal n) written.0.1 }

digits_spelled : (t : List ℕ) → AllDigits 10 t → text.spelled t ≡ Some t
unfolding text.spelled
digits_spelled [] h = refl
digits_spelled (c ∷ t) h =
    let range = digit_from_value c h.0 in
    rw (ne_eqb c 92 (λ e. absurd (omega (arith, range, e)))) (rw (le-leb 33 c (omega (arith, range))) (rw (le-leb c 126 (omega (arith, range))) (ap (λ r. before (Some c) r) (digits_spelled t h.1))))

digits_read : (t : List ℕ) → 0 < length t → AllDigits 10 t → unescaped t ≡ Some t
digits_read [] some h = absurd (omega (arith, some))
digits_read (c ∷ t) some h =
    let range = digit_from_value c h.0 in
    let other : c == 92 ≡ false = ne_eqb c 92 (λ e. absurd (omega (arith, range, e))) in
    rw other (digits_spelled (c ∷ t) h)

pub decimal_again : (n : ℕ) → n < 10 ^ 64 → unescaped (decimal n) ≡ Some (decimal n)
decimal_again n small = let written = decimal_is_IsNumeral_wide n small in digits_read (decimal n) written.0.0 written.0.1

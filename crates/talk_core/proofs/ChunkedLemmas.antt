-- What the framer prints in chunks is read as one body in chunks.
use Rattle.std.proofs.Common.{◌≡◌, ℕ, zero, suc, ◌+◌, ◌-◌, ◌/◌, ◌%◌, ◌^◌, ◌<◌, ◌≤◌, Bool, true, false, ◌==◌, nat_lt, if◌then◌else◌, List, [], ◌∷◌, ◌++◌, length, take, drop, get_or, Option, None, Some, option_map, refl, sym, ap, subst, ◌∙◌, append_assoc, arith, length-append, inl, inr, IsTrue, MatchBool, pow-suc}
use Rattle.std.proofs.lemmas.List.{append-nil}
use Rattle.std.proofs.lemmas.Bool.Decides.{nat_tests}
use Rattle.std.proofs.Math.Seq.{take-append_seam, drop-append_seam, take-append-add}
use Rattle.std.specs.List.{concat, flat_map}
use Rattle.std.specs.Fmt.{digits, digits_onto, digit_glyph}
use Rattle.std.specs.Char.{digit_value, is_ascii_hexdigit}
use Rattle.std.specs.Str.Parse.{AllDigits, digits_value}
use Rattle.std.proofs.lemmas.Fmt.{digits_is_IsNumeral}
use Rattle.httparse.specs.Grammar.{print_chunk_line, crlf}
use Rattle.rack_types.specs.BodyRules.{Break, body_break, a_piece_later}
use Rattle.message_framing.specs.HeadText.{empty_line}
use Rattle.message_framing.specs.Framing.{body_limit}
use Rattle.message_framing.specs.Chunks.{line_end, size_line_within, trailer_end, has_too_many_fields, NamesSize, Front, last, chunk_front, SizeFront, LineFront, FrontIs, ChunksAt}
use Rattle.message_framing.specs.Chunks.{chunk as chunk_of}
use Rattle.reply_framing.specs.declared.types.Form.TheVariants.{Chunked}
use Rattle.reply_framing.specs.Body.{chunk, wire, last_bytes, bytes_until, body_bytes}
use Rattle.talk_core.specs.Laws.{IsChunkedBody, AreReadAgain}

-- either list is short enough
few_if : (t : Bool) (xs ys : List ℕ) (m : ℕ) → length xs ≤ m → (t ≡ false → length ys ≤ m) → length (if t then xs else ys) ≤ m
few_if true xs ys m a b = a
few_if false xs ys m a b = b refl

above_zero : (m : ℕ) → (m == 0) ≡ false → 0 < m
above_zero zero e = cc
above_zero (suc m) e = omega arith

some_power : (j m : ℕ) → m < 16 ^ j → 0 < m → 0 < j
some_power zero m less some = absurd (omega (arith, less, some))
some_power (suc j) m less some = omega arith

sixteenth : (j n : ℕ) → n < 16 ^ suc j → n / 16 < 16 ^ j
sixteenth j n small = omega (arith, pow-suc 16 j, small)

-- a number below 16 ^ j has at most j digits
digits_few : (j k n : ℕ) (acc : List ℕ) → 0 < j → n < 16 ^ j → length (digits_onto k 16 false n acc) ≤ j + length acc
digits_few zero k n acc some small = absurd (omega (arith, some))
digits_few (suc j) zero n acc some small = omega arith
digits_few (suc j) (suc k) n acc some small =
    few_if (n / 16 == 0) (digit_glyph false (n % 16) ∷ acc) (digits_onto k 16 false (n / 16) (digit_glyph false (n % 16) ∷ acc)) (suc j + length acc)
    (omega arith)
    (λ e. let less : n / 16 < 16 ^ j = sixteenth j n small in
    let few : length (digits_onto k 16 false (n / 16) (digit_glyph false (n % 16) ∷ acc)) ≤ j + suc (length acc) =
    digits_few j k (n / 16) (digit_glyph false (n % 16) ∷ acc) (some_power j (n / 16) less (above_zero (n / 16) e)) less in
    omega (arith, few))

-- the digits of a chunk's size
pub record IsSize (ds : List ℕ) (n : ℕ) : Type 0 where
  pub some : 0 < length ds
  pub few : length ds ≤ 6
  pub digits_are : AllDigits 16 ds
  pub value : digits_value 16 ds ≡ n

size_digits : (n : ℕ) → n ≤ 1048576 → IsSize (digits 16 false n) n
unfolding digits
size_digits n small =
    let numeral = digits_is_IsNumeral 16 false (omega arith) (omega arith) n (omega arith) in
    record {
      some = numeral.0.0;
      few = digits_few 6 64 n [] (omega arith) (omega arith);
      digits_are = numeral.0.1;
      value = numeral.1;
    }

hex_digit : (c : ℕ) → digit_value c < 16 → IsTrue (is_ascii_hexdigit c)
hex_digit c small = grind (arith, nat_tests)

hex_digits : (ds : List ℕ) → AllDigits 16 ds → (k : ℕ) (d : ℕ) → k < length ds → IsTrue (is_ascii_hexdigit (get_or ds k d))
hex_digits [] all k d lt = absurd (omega (arith, lt))
hex_digits (c ∷ cs) all zero d lt = hex_digit c all.0
hex_digits (c ∷ cs) all (suc k) d lt = hex_digits cs all.1 k d (omega (arith, lt))

no_feed : (c : ℕ) → digit_value c < 16 → (c == 10) ≡ false
no_feed c small = grind (arith, nat_tests)

-- digits end at the line feed behind them
line_end_of : (ds rest : List ℕ) → AllDigits 16 ds → line_end (ds ++ 13 ∷ 10 ∷ rest) ≡ Some (length ds + 2)
unfolding line_end
line_end_of [] rest all = refl
line_end_of (c ∷ cs) rest all =
    let n : suc (length cs + 2) ≡ suc (length cs) + 2 = omega arith in
    ap (λ (b : Bool). if b then Some 1 else option_map suc (line_end (cs ++ 13 ∷ 10 ∷ rest))) (no_feed c all.0)
    ∙ ap (option_map suc) (line_end_of cs rest all.1) ∙ ap Some n

size_line : List ℕ → List ℕ
size_line ds = ds ++ 13 ∷ 10 ∷ []

module _ (ds : List ℕ) (n : ℕ) (is : IsSize ds n) where
  line_is : (rest : List ℕ) → (ds ++ 13 ∷ 10 ∷ []) ++ rest ≡ ds ++ 13 ∷ 10 ∷ rest
  line_is rest = append_assoc ds (13 ∷ 10 ∷ []) rest

  line_length : length (ds ++ 13 ∷ 10 ∷ []) ≡ length ds + 2
  line_length = length-append ds (13 ∷ 10 ∷ [])

  line_within : (rest : List ℕ) → size_line_within ((ds ++ 13 ∷ 10 ∷ []) ++ rest) ≡ Some (length (ds ++ 13 ∷ 10 ∷ []))
  line_within rest =
      let m : 1024 ≡ length ds + suc (suc (1022 - length ds)) = omega (arith, is.few) in
      let cut : take 1024 (ds ++ 13 ∷ 10 ∷ rest) ≡ ds ++ 13 ∷ 10 ∷ take (1022 - length ds) rest =
      ap (λ (i : ℕ). take i (ds ++ 13 ∷ 10 ∷ rest)) m ∙ take-append-add ds (13 ∷ 10 ∷ rest) (suc (suc (1022 - length ds))) in
      ap (λ (b : List ℕ). line_end (take 1024 b)) (line_is rest) ∙ ap line_end cut
      ∙ line_end_of ds (take (1022 - length ds) rest) is.digits_are ∙ ap Some (sym line_length)

  names : NamesSize (ds ++ 13 ∷ 10 ∷ []) n
  unfolding print_chunk_line
  names = (
    record { digits = ds; pad = []; extension = None },
    (
      record {
        digits = (is.some, omega (arith, is.few), hex_digits ds is.digits_are);
        pad = λ k d lt. absurd (omega (arith, lt));
        extension = tt;
      },
      simp append-nil refl,
    ),
    sym is.value,
  )

  -- a size line with this size, and then
  sized_front : (sum : ℕ) (rest : List ℕ) (front : Front) → SizeFront sum (length (ds ++ 13 ∷ 10 ∷ [])) n rest front
      → FrontIs sum ((ds ++ 13 ∷ 10 ∷ []) ++ rest) front
  sized_front sum rest front sized =
      let line : List ℕ = ds ++ 13 ∷ 10 ∷ [] in
      subst (λ (o : Option ℕ). LineFront o sum ((ds ++ 13 ∷ 10 ∷ []) ++ rest) front) (sym (line_within rest))
      (inr (
        n,
        subst (λ (l : List ℕ). NamesSize l n) (sym (take-append_seam (ds ++ 13 ∷ 10 ∷ []) rest)) names,
        subst (λ (r : List ℕ). SizeFront sum (length (ds ++ 13 ∷ 10 ∷ [])) n r front) (sym (drop-append_seam (ds ++ 13 ∷ 10 ∷ []) rest)) sized,
      ))

otherwise : (b : Bool) (P Q : Type 0) → b ≡ false → Q → MatchBool b P Q
otherwise true P Q e q = cc
otherwise false P Q e q = q

indeed : (b : Bool) (P Q : Type 0) → b ≡ true → P → MatchBool b P Q
indeed true P Q e p = p
indeed false P Q e p = cc

-- a printed chunk stands at the front
chunk_front_of : (sum : ℕ) (piece tail : List ℕ) → 0 < length piece → sum + length piece ≤ 1048576
    → FrontIs sum ((digits 16 false (length piece) ++ 13 ∷ 10 ∷ []) ++ (piece ++ 13 ∷ 10 ∷ tail))
    (chunk_of (length (digits 16 false (length piece) ++ 13 ∷ 10 ∷ []) + (length piece + 2)) piece)
chunk_front_of sum piece tail some few =
    let n : ℕ = length piece in
    let ds : List ℕ = digits 16 false (length piece) in
    let m : ℕ = length (digits 16 false (length piece) ++ 13 ∷ 10 ∷ []) in
    let within : nat_lt body_limit (sum + length piece) ≡ false = grind (arith, nat_tests, few) in
    let sized : (length piece == 0) ≡ false = grind (arith, nat_tests, some) in
    let front : chunk_of (length (digits 16 false (length piece) ++ 13 ∷ 10 ∷ []) + (length piece + 2)) piece
    ≡ chunk_front (length (digits 16 false (length piece) ++ 13 ∷ 10 ∷ [])) (length piece) (piece ++ 13 ∷ 10 ∷ tail) =
    rw (take-append_seam piece (13 ∷ 10 ∷ tail), drop-append_seam piece (13 ∷ 10 ∷ tail)) refl in
    sized_front (digits 16 false (length piece)) (length piece) (size_digits (length piece) (omega (arith, few))) sum (piece ++ 13 ∷ 10 ∷ tail) _
    (otherwise (nat_lt body_limit (sum + length piece)) _ _ within (otherwise (length piece == 0) _ _ sized front))

-- the last chunk, without a trailer
last_front_of : (sum : ℕ) → sum ≤ 1048576 → FrontIs sum (48 ∷ 13 ∷ 10 ∷ 13 ∷ 10 ∷ []) (last 5)
unfolding line_end trailer_end empty_line has_too_many_fields
last_front_of sum few =
    let zero_is : IsSize (48 ∷ []) 0 = record { some = omega arith; few = omega arith; digits_are = (omega arith, tt); value = refl } in
    let within : nat_lt body_limit (sum + 0) ≡ false = grind (arith, nat_tests, few) in
    sized_front (48 ∷ []) 0 zero_is sum (13 ∷ 10 ∷ []) (last 5)
    (otherwise (nat_lt body_limit (sum + 0)) _ _ within
    (inl (([], crlf, ((λ k d lt. absurd (omega (arith, lt))), refl), omega arith), refl)))

-- the pieces that are sent
nonempty : List (List ℕ) → List (List ℕ)
nonempty [] = []
nonempty ([] ∷ ps) = nonempty ps
nonempty ((b ∷ bs) ∷ ps) = (b ∷ bs) ∷ nonempty ps

concat_nonempty : (ps : List (List ℕ)) → concat (nonempty ps) ≡ concat ps
unfolding nonempty
concat_nonempty [] = refl
concat_nonempty ([] ∷ ps) = concat_nonempty ps
concat_nonempty ((b ∷ bs) ∷ ps) = ap (λ (x : List ℕ). (b ∷ bs) ++ x) (concat_nonempty ps)

printed : List (List ℕ) → List ℕ
printed ps = flat_map (wire Chunked) ps ++ last_bytes Chunked

-- a printed chunk, with what follows
chunk_is : (b : ℕ) (bs tail : List ℕ) → chunk (b ∷ bs) ++ tail ≡ (digits 16 false (length (b ∷ bs)) ++ 13 ∷ 10 ∷ []) ++ ((b ∷ bs) ++ 13 ∷ 10 ∷ tail)
chunk_is b bs tail =
    let ds : List ℕ = digits 16 false (length (b ∷ bs)) in
    append_assoc ((digits 16 false (length (b ∷ bs)) ++ 13 ∷ 10 ∷ []) ++ (b ∷ bs)) (13 ∷ 10 ∷ []) tail
    ∙ append_assoc (digits 16 false (length (b ∷ bs)) ++ 13 ∷ 10 ∷ []) (b ∷ bs) (13 ∷ 10 ∷ tail)

chunk_length : (b : ℕ) (bs : List ℕ) → length (chunk (b ∷ bs)) ≡ length (digits 16 false (length (b ∷ bs)) ++ 13 ∷ 10 ∷ []) + (length (b ∷ bs) + 2)
chunk_length b bs =
    let ds : List ℕ = digits 16 false (length (b ∷ bs)) in
    omega (arith, length-append ((digits 16 false (length (b ∷ bs)) ++ 13 ∷ 10 ∷ []) ++ (b ∷ bs)) (13 ∷ 10 ∷ []), length-append (digits 16 false (length (b ∷ bs)) ++ 13 ∷ 10 ∷ []) (b ∷ bs))

-- all chunks are read
chunks_read : (ps : List (List ℕ)) (sum : ℕ) → sum + length (concat ps) ≤ 1048576 → ChunksAt (nonempty ps) sum (printed ps) (length (printed ps))
unfolding nonempty printed ChunksAt
chunks_read [] sum few = last_front_of sum (omega (arith, few))
chunks_read ([] ∷ ps) sum few = chunks_read ps sum few
chunks_read ((b ∷ bs) ∷ ps) sum few =
    let total : sum + length (b ∷ bs) + length (concat ps) ≤ 1048576 = omega (arith, few, length-append (b ∷ bs) (concat ps)) in
    let tail : List ℕ = flat_map (wire Chunked) ps ++ last_bytes Chunked in
    let split : (chunk (b ∷ bs) ++ flat_map (wire Chunked) ps) ++ last_bytes Chunked ≡ chunk (b ∷ bs) ++ (flat_map (wire Chunked) ps ++ last_bytes Chunked) =
    append_assoc (chunk (b ∷ bs)) (flat_map (wire Chunked) ps) (last_bytes Chunked) in
    let front = chunk_front_of sum (b ∷ bs) (flat_map (wire Chunked) ps ++ last_bytes Chunked) (omega arith) (omega (arith, total)) in
    let more = chunks_read ps (sum + length (b ∷ bs)) total in (
      length (chunk (b ∷ bs)),
      length (flat_map (wire Chunked) ps ++ last_bytes Chunked),
      subst (λ (x : List ℕ). FrontIs sum x (chunk_of (length (chunk (b ∷ bs))) (b ∷ bs)))
          (sym (split ∙ chunk_is b bs (flat_map (wire Chunked) ps ++ last_bytes Chunked)))
          (subst (λ (m : ℕ). FrontIs sum ((digits 16 false (length (b ∷ bs)) ++ 13 ∷ 10 ∷ []) ++ ((b ∷ bs) ++ 13 ∷ 10 ∷ (flat_map (wire Chunked) ps ++ last_bytes Chunked))) (chunk_of m (b ∷ bs)))
          (sym (chunk_length b bs)) front),
      subst (λ (x : List ℕ). ChunksAt (nonempty ps) (sum + length (b ∷ bs)) x (length (flat_map (wire Chunked) ps ++ last_bytes Chunked)))
          (sym (ap (drop (length (chunk (b ∷ bs)))) split ∙ drop-append_seam (chunk (b ∷ bs)) (flat_map (wire Chunked) ps ++ last_bytes Chunked))) more,
      ap length split ∙ length-append (chunk (b ∷ bs)) (flat_map (wire Chunked) ps ++ last_bytes Chunked),
    )

-- without a promise, a body that ends well breaks nothing
none_broken : (ps : List (List ℕ)) → body_break None ps false ≡ None
unfolding body_break
none_broken [] = refl
none_broken (p ∷ ps) = ap (option_map a_piece_later) (none_broken ps)

pub read_again : (pieces : List (List ℕ)) → AreReadAgain pieces
unfolding printed
read_again pieces few =
    let text : body_bytes Chunked None pieces false ≡ flat_map (wire Chunked) pieces ++ last_bytes Chunked =
    ap (λ (b : Option Break). bytes_until b Chunked pieces) (none_broken pieces) in
    subst (λ (x : List ℕ). IsChunkedBody x (concat pieces)) (sym text)
    (nonempty pieces, chunks_read pieces 0 (omega (arith, few)), sym (concat_nonempty pieces))

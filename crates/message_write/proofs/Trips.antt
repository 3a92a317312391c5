-- The two round trips: what is written reads back, and what was read is written back to its own bytes.
-- Assumes nothing.
use mathlib.Core.Path.{◌≡◌, refl, ap, ◌∙◌, sym, subst}
use mathlib.Core.Bool.{true, false}
use mathlib.Core.List.{List, [], ◌∷◌, ◌++◌, append-nil}
use Prim.Native.Nat.{ℕ, ◌+◌, ◌≤◌}
use native.Mathlib.Omega.{arith}
use borrow.Author.Tests.{le-ltb, ne_eqb}
use lib.ListN.{length, length-append}
use Rattle.wire.specs.Layout.{Value, number_is, decode, encode, number_in, width_of, Fits}
use Rattle.wire.specs.Number.{part, splice, Bytes}
use Rattle.wire.proofs.Layouts.{length-encode, fits_sized, decode-encode, encode-decode, decode_fits}
use Rattle.wire.proofs.Place.{part-splice, part-add, part-all}
use Rattle.message.specs.Layouts.{head, layout_of, size_in, type_in}
use Rattle.message.specs.Reading.{read_of}
use Rattle.message.specs.Row.{fields_of, message_of, row_of, type_of}
use Rattle.message.specs.Rules.{good_message}
use Rattle.message.specs.Table.{below, payload_of, too_short}
use Rattle.message_write.specs.Writing.{buffer_after, head_row, is_written, message_bytes, message_size, Proper, write_of}
use Rattle.message.specs.declared.kinds.Message.{Message}
use Rattle.std.proofs.Common.{Ok}
use Rattle.message_write.proofs.Back.{message_back, row_back, fields_proper}
use Rattle.message.proofs.Cases.{room}
use Rattle.message_write.proofs.Opened.{Opened, written_opened}
use Rattle.message.proofs.Readings.{good, Taken, taken as read_taken}
use Rattle.message_write.proofs.Writing.{accepts, counted, taken}

-- a header's two values fit
head_fits : (t : ℕ) → Opened t → Fits head (head_row t)
unfolding message_size
head_fits t o = (omega arith, (omega arith, tt))

-- a message of exactly its size is not too short
exact : (p : ℕ) → p ≤ 125 → below (3 + p) p ≡ false
exact p h = simp (le-ltb (3 + p) (3 + p) (omega arith), ne_eqb p 255 (λ e. omega arith))

module _ (m : Message) (written : is_written m ≡ true) (fits : Fits (layout_of (type_of m)) (row_of m)) where
  pub length_message : length (message_bytes m) ≡ message_size (type_of m)
  unfolding message_bytes message_size
  length_message =
      length-append (encode head (head_row (type_of m))) (encode (layout_of (type_of m)) (row_of m))
      ∙ ap (λ (k : ℕ). 3 + k) (length-encode (layout_of (type_of m)) (row_of m) (fits_sized (layout_of (type_of m)) (row_of m) fits) ∙ (written_opened m written).width)

  head_there : decode head 0 (message_bytes m) ≡ head_row (type_of m)
  unfolding message_bytes
  head_there = decode-encode head (head_row (type_of m)) [] (encode (layout_of (type_of m)) (row_of m)) (head_fits (type_of m) (written_opened m written))

  row_there : decode (layout_of (type_of m)) 3 (message_bytes m) ≡ row_of m
  unfolding message_bytes
  row_there =
      ap (λ (l : List ℕ). decode (layout_of (type_of m)) 3 (encode head (head_row (type_of m)) ++ l)) (sym (append-nil (encode (layout_of (type_of m)) (row_of m))))
      ∙ decode-encode (layout_of (type_of m)) (row_of m) (encode head (head_row (type_of m))) [] fits

  fields_there : Proper m → m ≡ fields_of (type_of m) (message_bytes m)
  unfolding fields_of
  fields_there proper = sym (ap (message_of (type_of m)) row_there ∙ message_back m proper written)

  -- the bytes of a message read as the message
  pub bytes_read : Proper m → good_message m ≡ true → read_of (message_bytes m) ≡ Ok m
  unfolding message_size
  bytes_read proper keeps =
      let o = written_opened m written in
      let long : length (message_bytes m) ≡ 3 + payload_of (type_of m) = length_message in
      let size : 3 + payload_of (type_of m) ≡ size_in (message_bytes m) = sym (ap (λ (vs : List Value). number_in vs 0) head_there) in
      let kind : type_of m ≡ type_in (message_bytes m) = sym (ap (λ (vs : List Value). number_in vs 1) head_there) in
      let enough : too_short (type_of m) (length (message_bytes m)) ≡ false = ap (λ (n : ℕ). too_short (type_of m) n) long ∙ exact (payload_of (type_of m)) o.small in
      sym (good (message_bytes m) (omega arith) (omega arith) size (sym long) kind enough (fields_there proper) keeps)

-- WRITTEN, THEN READ. For every message that writing accepts: reading the bytes written gives the message back.
-- Each number of a program's message has its field's width, and each text its length: that is `Fits`.
pub written_reads : (m : Message) (buf : List ℕ) (at n : ℕ) → Fits (layout_of (type_of m)) (row_of m) → Proper m → write_of m buf at ≡ Ok n → read_of (part (buffer_after m buf at) at n) ≡ Ok m
written_reads m buf at n fits proper e =
    let c = counted m (length buf) at n e in
    let long : length (message_bytes m) ≡ n = length_message m c.written fits ∙ sym c.whole in
    let there : part (buffer_after m buf at) at n ≡ message_bytes m =
    ap (λ (l : List ℕ). part l at n) (sym (taken m buf at e))
    ∙ subst (λ (k : ℕ). part (splice buf at (message_bytes m)) at k ≡ message_bytes m) long (part-splice buf at (message_bytes m) (omega (arith, c.room))) in
    ap read_of there ∙ bytes_read m c.written fits proper c.good

-- what was read of a type that is written: its type and its row are those that stand in the bytes
module _ (s : List ℕ) (m : Message) (read : read_of s ≡ Ok m) (written : is_written m ≡ true) where
  facts : Taken s m
  facts = read_taken s m read

  stands : (type_of m ≡ type_in s) × (row_of m ≡ decode (layout_of (type_in s)) 3 s)
  stands =
      subst (λ (k : Message). is_written k ≡ true → (type_of k ≡ type_in s) × (row_of k ≡ decode (layout_of (type_in s)) 3 s)) facts.fields (row_back (type_in s) s) written

  -- the bytes have room for the layout
  pub read_room : 3 + width_of (layout_of (type_in s)) ≤ length s
  read_room =
      let o : Opened (type_in s) = subst Opened stands.0 (written_opened m written) in
      let r = room (type_in s) (length s) refl (simp (ne_eqb (payload_of (type_in s)) 255 (λ e. omega arith))) facts.enough in
      omega (arith, o.width)

  -- what was read fits its layout
  pub read_fits : Bytes s → Fits (layout_of (type_of m)) (row_of m)
  read_fits bytes = rw (stands.1, stands.0) (decode_fits (layout_of (type_in s)) 3 s bytes read_room)

  module _ (bytes : Bytes s) (exactly : length s ≡ message_size (type_of m)) where
    head_back : head_row (type_of m) ≡ decode head 0 s
    head_back = ap (λ (n : ℕ). number_is n ∷ number_is (type_of m) ∷ []) (sym exactly ∙ sym facts.size) ∙ ap (λ (t : ℕ). number_is (size_in s) ∷ number_is t ∷ []) stands.0

    width : 3 + width_of (layout_of (type_in s)) ≡ length s
    unfolding message_size
    width = rw (← stands.0, (written_opened m written).width) (sym exactly)

    bytes_back : message_bytes m ≡ s
    unfolding message_bytes
    bytes_back =
        let rest = encode (layout_of (type_of m)) (row_of m) in
        let w = width_of (layout_of (type_in s)) in
        let first : encode head (head_row (type_of m)) ≡ part s 0 3 = ap (encode head) head_back ∙ encode-decode head 0 s bytes facts.least in
        let second : rest ≡ part s 3 w =
        ap (encode (layout_of (type_of m))) stands.1
        ∙ ap (λ (t : ℕ). encode (layout_of t) (decode (layout_of (type_in s)) 3 s)) stands.0
        ∙ encode-decode (layout_of (type_in s)) 3 s bytes read_room in
        ap (λ (l : List ℕ). l ++ rest) first
        ∙ ap (λ (l : List ℕ). part s 0 3 ++ l) second
        ∙ part-add s 0 3 w (omega (arith, width))
        ∙ ap (part s 0) width
        ∙ part-all s

-- what was read has no text beside those of its kind
pub read_proper : (s : List ℕ) (m : Message) → read_of s ≡ Ok m → Proper m
read_proper s m read = subst Proper (read_taken s m read).fields (fields_proper (type_in s) s)

-- bytes s that are written again: the message's own, and at every place where they fit the count and s there
pub record WritesBack (s : List ℕ) (m : Message) : Type 0 where
  pub same : message_bytes m ≡ s
  pub answer : (buf : List ℕ) (at : ℕ) → at + length s ≤ length buf → write_of m buf at ≡ Ok (length s)
  pub buffer : (buf : List ℕ) (at : ℕ) → at + length s ≤ length buf → buffer_after m buf at ≡ splice buf at s

-- READ, THEN WRITTEN. For every byte string that reading accepts, of exactly its type's size and of a type that is
-- written: writing what was read gives those bytes, the reserved, the unchecked and the last two of an id among them.
pub read_writes : (s : List ℕ) (m : Message) → Bytes s → read_of s ≡ Ok m → is_written m ≡ true → length s ≡ message_size (type_of m) → WritesBack s m
read_writes s m bytes read written exactly =
    let same = bytes_back s m read written bytes exactly in
    let answer : (buf : List ℕ) (at : ℕ) → at + length s ≤ length buf → write_of m buf at ≡ Ok (length s) =
    λ buf at h. accepts m (length buf) at written (read_taken s m read).good (subst (λ (n : ℕ). at + n ≤ length buf) exactly h) ∙ ap Ok (sym exactly) in
    record {
      same = same;
      answer = answer;
      buffer = λ buf at h. sym (taken m buf at (answer buf at h)) ∙ ap (splice buf at) same;
    }

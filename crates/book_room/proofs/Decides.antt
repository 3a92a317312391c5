-- What an arm decides is the effect of the message, and where its match leaves the rest over, what the effect can be.
-- Assumes nothing.
use mathlib.Core.Path.{◌≡◌, refl, ap, ◌∙◌, sym}
use mathlib.Core.Bool.{Bool, true, false, ◌&&◌}
use mathlib.Core.List.{List}
use Prim.Native.Nat.{ℕ}
use borrow.Author.Tests.{eqb-true}
use lib.Dec.{eqb, leb}
use lib.ListN.{get_or, take}
use Rattle.std.specs.Prelude.{Option}
use Rattle.wire.specs.Number.{part}
use Rattle.fields.specs.Id.{number_of}
use Rattle.message.specs.Layouts.{type_in}
use Rattle.message.specs.Row.{fields_of, type_of}
use Rattle.message.specs.Whole.{Whole}
use Rattle.message.specs.declared.kinds.Message.{Message}
use Rattle.book.specs.Applying.{Seen, apply_of, change_of, effect_of, inside_of, is_listed, message_in, names, seen_of, topic_of}
use Rattle.book.specs.Lookup.{is_at, key_at, place_found, symbol_at}
use Rattle.book.specs.Named.{is_fault}
use Rattle.book.specs.Rule.{Kept}
use Rattle.book.specs.Tables.{Book, blank, rep, view}
use Rattle.book.specs.declared.deciding.Effect.{Effect}
use Rattle.book.specs.declared.deciding.Effect.TheVariants.{Put, Replace, Remove, Renew, Enter, Record, Unchanged, Fault, CountApart}
use Rattle.book.specs.declared.deciding.Reason.{Reason}
use Rattle.book.specs.declared.tables.Inside.{Inside}
use Rattle.book.specs.declared.tables.OpeningRule.{OpeningRule}
use Rattle.book.proofs.Steps.{Decided, seen-is, unchanged_done}
use Rattle.book.proofs.Told.{Change, by_faults, tells, unfaulted}
use Rattle.book.proofs.Types.{add_id, no, pick, top_topic, type_kept}
use Rattle.book_deciding.proofs.Listing.{named-listed}
use Rattle.book_room.specs.Arms.{named_in}
use Rattle.book_room.specs.declared.changing.Name.{Name}

-- ---- what is seen of a book

module _ {b : Book} (s : List ℕ) (kept : Kept b) where
  abbrev seen : Seen
  seen = seen_of (view b) (message_in s)

  whole_seen : ◌≡◌ {A = Seen}
      (record {
        live = b.live;
        order = key_at (number_of (message_in s).id) (take b.live b.keys);
        shares = (get_or b.orders (place_found (key_at (number_of (message_in s).id) (take b.live b.keys))) blank).shares;
        price = (get_or b.orders (place_found (key_at (number_of (message_in s).id) (take b.live b.keys))) blank).price;
        held = b.held;
        inside = symbol_at (topic_of (message_in s)) (take b.held b.fronts) (take b.held b.backs);
        rule = b.unlisted.rule;
      })
      (seen_of (view b) (message_in s))
  whole_seen = seen-is b s kept refl refl refl refl refl

  order_seen_lem : (seen_of (view b) (message_in s)).order ≡ (named_in b s).order
  order_seen_lem = ap (λ (z : Seen). z.order) (sym whole_seen)

  pub decided-add : {key live : ℕ} {order : Option ℕ} {e : Effect} → type_in s ≡ 21 → Whole s → key ≡ number_of (part s 7 14)
      → order ≡ key_at key (take b.live b.keys) → live ≡ b.live
      → ((seen : Seen) → seen.order ≡ order → seen.live ≡ live → e ≡ effect_of seen (fields_of 21 s))
      → Decided b s key (topic_of (message_in s)) e
  decided-add type whole value found many is =
      let id = value ∙ add_id s type in
      record {
        kept = kept;
        whole = whole;
        value = id;
        about = refl;
        effect =
            is seen
            (sym (ap (λ (x : Seen). x.order) whole_seen) ∙ ap (λ (k : ℕ). key_at k (take b.live b.keys)) (sym id) ∙ sym found)
            (sym (ap (λ (x : Seen). x.live) whole_seen) ∙ sym many)
            ∙ ap (λ (k : ℕ). effect_of seen (fields_of k s)) (sym type);
      }

  pub decided_change : {n : Name} {q p : ℕ} {e : Effect} → Whole s → n ≡ named_in b s
      → q ≡ (get_or b.orders (place_found (named_in b s).order) blank).shares
      → p ≡ (get_or b.orders (place_found (named_in b s).order) blank).price
      → ((seen : Seen) → seen.order ≡ n.order → seen.shares ≡ q → seen.price ≡ p → e ≡ effect_of seen (message_in s))
      → Decided b s n.key (topic_of (message_in s)) e
  decided_change whole named shares price is =
      record {
        kept = kept;
        whole = whole;
        value = ap (λ (x : Name). x.key) named;
        about = refl;
        effect =
            is seen
            (sym (ap (λ (x : Seen). x.order) whole_seen) ∙ sym (ap (λ (x : Name). x.order) named))
            (sym (ap (λ (x : Seen). x.shares) whole_seen) ∙ sym shares)
            (sym (ap (λ (x : Seen). x.price) whole_seen) ∙ sym price);
      }

  pub decided_tell : {held : ℕ} {inside : Option ℕ} {rule : OpeningRule} {e : Effect} → Whole s
      → inside ≡ symbol_at (topic_of (message_in s)) (take b.held b.fronts) (take b.held b.backs) → held ≡ b.held → rule ≡ b.unlisted.rule
      → ((seen : Seen) → seen.inside ≡ inside → seen.held ≡ held → seen.rule ≡ rule → e ≡ effect_of seen (message_in s))
      → Decided b s (number_of (message_in s).id) (topic_of (message_in s)) e
  decided_tell whole looked many chosen is =
      record {
        kept = kept;
        whole = whole;
        value = refl;
        about = refl;
        effect =
            is seen
            (sym (ap (λ (x : Seen). x.inside) whole_seen) ∙ sym looked)
            (sym (ap (λ (x : Seen). x.held) whole_seen) ∙ sym many)
            (sym (ap (λ (x : Seen). x.rule) whole_seen) ∙ sym chosen);
      }

-- ---- what is left over

-- an Add that is no fault puts its order
no_fault : (e : Effect) → ((reason : Reason) → e ≡ Fault reason → ⊥) → is_fault e ≡ false
no_fault Put h = refl
no_fault (Replace place shares price) h = refl
no_fault (Remove place) h = refl
no_fault (Renew place) h = refl
no_fault Enter h = refl
no_fault (Record code) h = refl
no_fault Unchanged h = refl
no_fault (Fault reason) h = absurd (h reason refl)
no_fault CountApart h = refl

-- whether an effect is one on the orders
abbrev touches : Effect → Bool
touches Put = true
touches (Replace place shares price) = true
touches (Remove place) = true
touches (Renew place) = false
touches Enter = false
touches (Record code) = false
touches Unchanged = false
touches (Fault reason) = false
touches CountApart = false

abbrev Quiet : Effect → Type 0
Quiet e = touches e ≡ false

quiet : (seen : Seen) (m : Message) → (leb 21 (type_of m) && leb (type_of m) 25) ≡ false → touches (effect_of seen m) ≡ false
quiet seen m other = by_faults seen m Quiet (λ reason one. refl) (λ one good three four five six eight. change)
  where
    none : {A : Type 0} (k : ℕ) → (leb 21 k && leb k 25) ≡ true → eqb (type_of m) k ≡ true → A
    none k in-it is = no (sym other ∙ ap (λ (j : ℕ). leb 21 j && leb j 25) (eqb-true (type_of m) k is) ∙ in-it)

    change : touches (change_of seen m) ≡ false
    change =
        pick Quiet (eqb (type_of m) 20) (λ e. refl)
        λ f. pick Quiet (eqb (type_of m) 21) (none 21 refl)
        λ f. pick Quiet (eqb (type_of m) 22) (none 22 refl)
        λ f. pick Quiet (eqb (type_of m) 23) (none 23 refl)
        λ f. pick Quiet (eqb (type_of m) 24) (none 24 refl)
        λ f. pick Quiet (eqb (type_of m) 25) (none 25 refl)
        λ f. pick Quiet (eqb (type_of m) 26) (λ e. pick Quiet (is_at seen.inside) (λ z. refl) (λ z. refl))
        λ f. pick Quiet (is_listed (type_of m)) (λ z. refl) (λ z. refl)

module _ {b : Book} {s : List ℕ} {key : ℕ} {topic : List ℕ} {e : Effect} (d : Decided b s key topic e) where
  abbrev m : Message
  m = message_in s

  pub put_left : type_in s ≡ 21 → ((reason : Reason) → e ≡ Fault reason → ⊥) → e ≡ Put
  put_left type h =
      let t : type_of m ≡ 21 = type_kept (type_in s) s ∙ type in
      d.effect
      ∙ unfaulted (seen_of (view b) m) m (ap is_fault (sym d.effect) ∙ no_fault e h)
      ∙ rw t refl

  type_of_lem : {k : ℕ} → type_of m ≡ k → type_in s ≡ k
  type_of_lem h = sym (type_kept (type_in s) s) ∙ h

  changed : {e' : Effect} → e ≡ e' → Change (seen_of (view b) m) m e'
  changed h = (tells (seen_of (view b) m) m (sym d.effect ∙ h)).1

  -- an inside that comes has the symbol that the message tells of
  pub enter_symbol : {x : Inside} → e ≡ Enter → x ≡ inside_of (fields_of 26 s) → x.symbol ≡ topic_of (message_in s)
  enter_symbol is made = ap (λ (i : Inside). i.symbol) made ∙ top_topic s (type_of_lem (changed is).type)

  -- a message that names an order replaces, removes or faults
  pub change_left : (number : ℕ) → names (type_in s) ≡ true
      → ((place shares price : ℕ) → e ≡ Replace place shares price → ⊥) → ((place : ℕ) → e ≡ Remove place → ⊥) → ((reason : Reason) → e ≡ Fault reason → ⊥)
      → b ≡ rep (apply_of (view b) number s)
  change_left number named replaces removes faults = go e refl
    where
      none : {A : Type 0} (k : ℕ) → type_of m ≡ k → names k ≡ false → A
      none k is out = no (sym out ∙ ap names (sym (type_of_lem is)) ∙ named)

      go : (e' : Effect) → e ≡ e' → b ≡ rep (apply_of (view b) number s)
      go Put is = none 21 (changed is).type refl
      go (Replace place shares price) is = absurd (replaces place shares price is)
      go (Remove place) is = absurd (removes place is)
      go (Renew place) is = none 26 (changed is).type refl
      go Enter is = none 26 (changed is).type refl
      go (Record code) is = none 20 (changed is).type refl
      go Unchanged is = unchanged_done d number is
      go (Fault reason) is = absurd (faults reason is)
      go CountApart is = no (sym (changed is).0 ∙ named-listed (type_of m) (ap names (type_kept (type_in s) s) ∙ named))

  -- any other message touches no order
  pub tell_left : (number : ℕ) → (leb 21 (type_in s) && leb (type_in s) 25) ≡ false
      → ((place : ℕ) → e ≡ Renew place → ⊥) → (e ≡ Enter → ⊥) → ((code : ℕ) → e ≡ Record code → ⊥) → ((reason : Reason) → e ≡ Fault reason → ⊥) → (e ≡ CountApart → ⊥)
      → b ≡ rep (apply_of (view b) number s)
  tell_left number other renews enters records faults apart = go e refl
    where
      none : {A : Type 0} {e' : Effect} → e ≡ e' → touches e' ≡ true → A
      none is on = no (sym (quiet (seen_of (view b) m) m (ap (λ (k : ℕ). leb 21 k && leb k 25) (type_kept (type_in s) s) ∙ other)) ∙ ap touches (sym d.effect ∙ is) ∙ on)

      go : (e' : Effect) → e ≡ e' → b ≡ rep (apply_of (view b) number s)
      go Put is = none is refl
      go (Replace place shares price) is = none is refl
      go (Remove place) is = none is refl
      go (Renew place) is = absurd (renews place is)
      go Enter is = absurd (enters is)
      go (Record code) is = absurd (records code is)
      go Unchanged is = unchanged_done d number is
      go (Fault reason) is = absurd (faults reason is)
      go CountApart is = absurd (apart is)

-- the order that is replaced or leaves is the one that the message names
module _ {b : Book} {s : List ℕ} {key : ℕ} {topic : List ℕ} {e : Effect} (d : Decided b s key topic e) where
  pub replace_at : {place shares price : ℕ} → e ≡ Replace place shares price → place ≡ place_found (named_in b s).order
  replace_at h = (tells (seen_of (view b) (message_in s)) (message_in s) (sym d.effect ∙ h)).1.0.place ∙ ap place_found (order_seen_lem s d.kept)

  pub remove_at : {place : ℕ} → e ≡ Remove place → place ≡ place_found (named_in b s).order
  remove_at h = (tells (seen_of (view b) (message_in s)) (message_in s) (sym d.effect ∙ h)).1.place ∙ ap place_found (order_seen_lem s d.kept)

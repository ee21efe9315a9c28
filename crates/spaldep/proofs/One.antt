-- Each C call's promise fixes its answer and every byte of the host's memory: any two that meet it are equal. The
-- checks promise an equation, which is as much. Assumes nothing.
use mathlib.Core.Path.{◌≡◌, ◌∙◌, sym, ap}
use mathlib.Core.List.{List}
use Prim.Native.Nat.{ℕ}
use Rattle.automaton.proofs.Promise.{listing-promise-unique}
use Rattle.form.proofs.OneRead.{read-promise-one}
use Rattle.form.proofs.OneWritten.{write-promise-one}
use Rattle.rule.proofs.Calls.{start-by-start-one, forward-one}
use Rattle.spaldep.specs.Packed.{packed_answer}
use Rattle.index.proofs.Promises.{make-one, search-one}
use Rattle.spaldep.specs.Host.{StartByStartHost, ForwardHost, ListingHost, ReadHost, WriteHost, MakeHost}
use Rattle.spaldep.specs.Host.{SearchHost}

pub listing-host-one :
    (pattern : List ℕ) (lent word other : ℕ) (listing after : List ℕ)
    → ListingHost pattern lent word listing
    → ListingHost pattern lent other after
    → (word ≡ other) × (listing ≡ after)
listing-host-one pattern lent word other listing after h g =
    let q = listing-promise-unique pattern lent h.answer g.answer listing after h.listed g.listed in
    (h.packed ∙ ap packed_answer q.0 ∙ sym g.packed, q.1)

pub read-host-one :
    (text : List ℕ) (lent word other : ℕ) (pattern after : List ℕ)
    → ReadHost text lent word pattern
    → ReadHost text lent other after
    → (word ≡ other) × (pattern ≡ after)
read-host-one text lent word other pattern after h g =
    let q = read-promise-one text lent h.answer g.answer pattern after h.read g.read in
    (h.packed ∙ ap packed_answer q.0 ∙ sym g.packed, q.1)

pub write-host-one :
    (pattern : List ℕ) (lent word other : ℕ) (text after : List ℕ)
    → WriteHost pattern lent word text
    → WriteHost pattern lent other after
    → (word ≡ other) × (text ≡ after)
write-host-one pattern lent word other text after h g =
    let q = write-promise-one pattern lent h.answer g.answer text after h.wrote g.wrote in
    (h.packed ∙ ap packed_answer q.0 ∙ sym g.packed, q.1)

module _ (pattern block : List ℕ) where
  pub start-by-start-host-one :
      (lent word other : ℕ) (result after : List ℕ)
      → StartByStartHost pattern block lent word result
      → StartByStartHost pattern block lent other after
      → (word ≡ other) × (result ≡ after)
  start-by-start-host-one lent word other result after (StartByStartHost.refused_result i n w r) (StartByStartHost.refused_result j m v s) = (w ∙ sym v, r ∙ sym s)
  start-by-start-host-one lent word other result after (StartByStartHost.refused_result i n w r) (StartByStartHost.called f b h v) = absurd (n (f i))
  start-by-start-host-one lent word other result after (StartByStartHost.called e a g w) (StartByStartHost.refused_result j m v s) = absurd (m (e j))
  start-by-start-host-one lent word other result after (StartByStartHost.called e a g w) (StartByStartHost.called f b h v) =
      let q = start-by-start-one pattern block lent a b result after g h in
      (w ∙ ap packed_answer q.0 ∙ sym v, q.1)

  pub forward-host-one :
      (limit lent_work lent_result word other : ℕ) (work other_work result after : List ℕ)
      → ForwardHost pattern block limit lent_work lent_result word work result
      → ForwardHost pattern block limit lent_work lent_result other other_work after
      → (word ≡ other) × (work ≡ other_work) × (result ≡ after)
  forward-host-one limit lent_work lent_result word other work other_work result after (ForwardHost.refused_result i n w y r) (ForwardHost.refused_result j m v z s) = (w ∙ sym v, y ∙ sym z, r ∙ sym s)
  forward-host-one limit lent_work lent_result word other work other_work result after (ForwardHost.refused_result i n w y r) (ForwardHost.called f b h v) = absurd (n (f i))
  forward-host-one limit lent_work lent_result word other work other_work result after (ForwardHost.called e a g w) (ForwardHost.refused_result j m v z s) = absurd (m (e j))
  forward-host-one limit lent_work lent_result word other work other_work result after (ForwardHost.called e a g w) (ForwardHost.called f b h v) =
      let q = forward-one pattern block limit lent_work lent_result a b work other_work result after g h in
      (w ∙ ap packed_answer q.0 ∙ sym v, q.1, q.2)

pub make-host-one :
    (block : List ℕ) (lent word other : ℕ) (index after : List ℕ)
    → MakeHost block lent word index
    → MakeHost block lent other after
    → (word ≡ other) × (index ≡ after)
make-host-one block lent word other index after h g =
    let q = make-one block lent h.answer g.answer index after h.made g.made in
    (h.packed ∙ ap packed_answer q.0 ∙ sym g.packed, q.1)

pub search-host-one :
    (pattern index block : List ℕ) (limit lent_work lent_result word other : ℕ) (work other_work result after : List ℕ)
    → SearchHost pattern index block limit lent_work lent_result word work result
    → SearchHost pattern index block limit lent_work lent_result other other_work after
    → (word ≡ other) × (work ≡ other_work) × (result ≡ after)
search-host-one pattern index block limit lent_work lent_result word other work other_work result after (SearchHost.refused_result i f n w y r) (SearchHost.refused_result j g m v z s) = (w ∙ sym v, y ∙ sym z, r ∙ sym s)
search-host-one pattern index block limit lent_work lent_result word other work other_work result after (SearchHost.refused_result i f n w y r) (SearchHost.called e a g v) = absurd (n (e i f))
search-host-one pattern index block limit lent_work lent_result word other work other_work result after (SearchHost.called e a g w) (SearchHost.refused_result j f m v z s) = absurd (m (e j f))
search-host-one pattern index block limit lent_work lent_result word other work other_work result after (SearchHost.called e a g w) (SearchHost.called f b h v) =
    let q = search-one pattern index block limit lent_work lent_result a b work other_work result after g h in
    (w ∙ ap packed_answer q.0 ∙ sym v, q.1, q.2)

-- The machine's words of a box, of its parts, and of an engine behind a pointer without a type. Each is a pointer and
-- an allocator.
use Rattle.ch_c.proofs.Steps.{◌≡◌, List, [], ◌∷◌, ◌++◌, refl, Val, vstruct, vcons, vnil, vunit, has_ty, WT, T, ty_ptr, lit<}
use Rattle.ch_c.proofs.Steps.{of_list, ap, ◌∙◌}
use mathlib.Core.Bool.{true, ◌&&◌}
use denote.Laws.{Is}
use denote.RattleType.{RattleType}
use denote.RawPtr.{Ptr, block_ptr, null_ptr, ptr_val, RawPtr}
use denote.Struct.Field.{row_field}
use denote.Struct.Laws as struct
use denote.Struct.Owning.{Owning}
use denote.Struct.OwningLaws as owning
use Rattle.std_alloc.specs.contracts.boxed.Box as Box
use Rattle.std_heap.specs.contracts.Global as Heap
use Rattle.std_heap.specs.contracts.GlobalAllocator.TheImpl.{ghosts}
use Rattle.std_heap.proofs.Global.TheLaws as heap
use Rattle.ch_c.specs.contracts.erased.ErasedEngine.TheFields as Fields
use Rattle.ch_c.specs.contracts.raw_box.RawBox.TheFields as Parts
use denote.Struct.Tuple.{Tuple}
use denote.Exit.{no}
use denote.Param.{arg, layout, param}
use denote.Param.Laws.{Laws, arg_laws}
use mir.Syntax.{Dict, dnil, impl, tcons, tnil}
use mir.Raw.{raw as bare}

-- the word of an allocator
abbrev pub heap_word : Heap.the_row.Denot → Val
heap_word alloc = struct.val Heap.the_type heap.the_laws alloc

-- the word of a pointer with its allocator
abbrev pub word : Ptr → Heap.the_row.Denot → Val
word p alloc = vstruct (vcons (ptr_val p) (vcons (heap_word alloc) vnil))

-- the fields of an erased engine have this word
pub fields_word : (p : Ptr) (alloc : Heap.the_row.Denot) → Is Fields.the_row (record { at = p; alloc = alloc }) (word p alloc ∷ [])
fields_word p alloc = (
  (ptr_val p ∷ [], (heap_word alloc ∷ [], tt)),
  (refl, (refl, (((vstruct (vcons vunit vnil) ∷ [], tt), (refl, (((vunit ∷ [], tt), (refl, (refl, tt))), tt))), tt))),
)

-- a box of a value
abbrev pub Boxed : RattleType → Owning
Boxed R = Box.the_type R Heap.the_row ghosts

-- an allocator as a type argument
abbrev pub heap_laws : struct.FLaws (row_field Heap.the_row)
heap_laws = let word_is = struct.tells Heap.the_type heap.the_laws in
    record {
      val = heap_word;
      tells = word_is;
      low = heap_word;
      low-is = word_is;
      lawful =
          struct.lawful Heap.the_type heap.the_laws;
      drops = struct.drops Heap.the_type heap.the_laws;
    }

abbrev pub box_laws : (R : RattleType) → owning.Laws (Boxed R)
box_laws R = (struct.RawPtr-laws, (heap_laws, tt))

-- the word of a pointer has the type of pointers
pub ptr_fits : (p : Ptr) → T (has_ty ty_ptr (ptr_val p)) × WT (ptr_val p)
ptr_fits (block_ptr b o) = (tt, tt)
ptr_fits null_ptr = (tt, record { fits = lit< tt })

-- the word of a pointer with its allocator has their type
pub word_fits : (p : Ptr) → (T (has_ty ty_ptr (ptr_val p) && true)) × (WT (ptr_val p) × (((Unit {0} × Unit {0}) × Unit {0}) × Unit {0}))
word_fits (block_ptr b o) = (tt, (tt, (((tt, tt), tt), tt)))
word_fits null_ptr = (tt, (record { fits = lit< tt }, (((tt, tt), tt), tt)))

-- the parts of a box have this word
pub parts_word : (R : RattleType) (p : Ptr) (alloc : Heap.the_row.Denot) →
    Is (Parts.the_row R) (record { at = p; alloc = alloc }) (word p alloc ∷ [])
parts_word R p alloc = fields_word p alloc

-- an allocator has its word
pub heap_is : (alloc : Heap.the_row.Denot) → Is Heap.the_row alloc (heap_word alloc ∷ [])
heap_is alloc = ((vstruct (vcons vunit vnil) ∷ [], tt), (refl, (((vunit ∷ [], tt), (refl, (refl, tt))), tt)))

-- a pointer and an allocator that a call gave back have that word
pub pair_word : (p : Ptr) (alloc : Heap.the_row.Denot) (vs : List Val) → Is (Tuple (RawPtr ∷ param 1 Heap.the_row ∷ [])) (p, alloc) vs →
    vs ≡ word p alloc ∷ []
pair_word p alloc vs is =
    is.1.0 ∙ ap (λ ps. vstruct (of_list (ps ++ (is.0.1.0 ++ []))) ∷ []) is.1.1.0
    ∙ ap (λ hs. vstruct (of_list (ptr_val p ∷ (hs ++ []))) ∷ []) (struct.tells Heap.the_type heap.the_laws alloc is.0.1.0 is.1.1.1.0)

-- the allocator as a type argument of a call, with its laws and its drop
abbrev pub Z : RattleType
Z = arg (bare (layout Heap.the_row)) no Heap.the_row

abbrev pub LZ : Laws Z
LZ = arg_laws (bare (layout Heap.the_row)) no Heap.the_row heap.the_row_laws refl

abbrev pub let_go : Dict
let_go = impl ("ch_c::Destruct++none::drop" ∷ []) (tcons (layout Z) tnil) dnil

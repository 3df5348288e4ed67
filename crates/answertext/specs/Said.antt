-- What each kind of answer says, and the arrays and buffers that a call leaves, as pieces of text.
use Rattle.std.specs.Prelude.{List, [], ◌∷◌, ◌++◌, ℕ, ℤ}
use Rattle.texts.specs.Put.{signed_pieces}
use Rattle.calltext.specs.Shown.{ended, answered, counted, with_sign, plain, listed}

-- a blank, then row=
abbrev pub row_word : List ℕ
row_word = 32 ∷ 114 ∷ 111 ∷ 119 ∷ 61 ∷ []

-- a blank, then halfedges=
abbrev pub halfedges_word : List ℕ
halfedges_word = 32 ∷ 104 ∷ 97 ∷ 108 ∷ 102 ∷ 101 ∷ 100 ∷ 103 ∷ 101 ∷ 115 ∷ 61 ∷ []

-- a blank, then vertices=
abbrev pub vertices_word : List ℕ
vertices_word = 32 ∷ 118 ∷ 101 ∷ 114 ∷ 116 ∷ 105 ∷ 99 ∷ 101 ∷ 115 ∷ 61 ∷ []

-- a blank, then added=
abbrev pub added_word : List ℕ
added_word = 32 ∷ 97 ∷ 100 ∷ 100 ∷ 101 ∷ 100 ∷ 61 ∷ []

-- a blank, then steps=
abbrev pub steps_word : List ℕ
steps_word = 32 ∷ 115 ∷ 116 ∷ 101 ∷ 112 ∷ 115 ∷ 61 ∷ []

-- a blank, then count=
abbrev pub count_word : List ℕ
count_word = 32 ∷ 99 ∷ 111 ∷ 117 ∷ 110 ∷ 116 ∷ 61 ∷ []

-- a blank, then squared_length=
abbrev pub length_word : List ℕ
length_word = 32 ∷ 115 ∷ 113 ∷ 117 ∷ 97 ∷ 114 ∷ 101 ∷ 100 ∷ 95 ∷ 108 ∷ 101 ∷ 110 ∷ 103 ∷ 116 ∷ 104 ∷ 61 ∷ []

-- a blank, then limit=
abbrev pub limit_word : List ℕ
limit_word = 32 ∷ 108 ∷ 105 ∷ 109 ∷ 105 ∷ 116 ∷ 61 ∷ []

-- a blank, then next=
abbrev pub next_word : List ℕ
next_word = 32 ∷ 110 ∷ 101 ∷ 120 ∷ 116 ∷ 61 ∷ []

-- a blank, then first=
abbrev pub first_word : List ℕ
first_word = 32 ∷ 102 ∷ 105 ∷ 114 ∷ 115 ∷ 116 ∷ 61 ∷ []

-- a blank, then second=
abbrev pub second_word : List ℕ
second_word = 32 ∷ 115 ∷ 101 ∷ 99 ∷ 111 ∷ 110 ∷ 100 ∷ 61 ∷ []

-- a blank, then third=
abbrev pub third_word : List ℕ
third_word = 32 ∷ 116 ∷ 104 ∷ 105 ∷ 114 ∷ 100 ∷ 61 ∷ []

-- work
abbrev pub work_name : List ℕ
work_name = 119 ∷ 111 ∷ 114 ∷ 107 ∷ []

-- list
abbrev pub list_name : List ℕ
list_name = 108 ∷ 105 ∷ 115 ∷ 116 ∷ []

-- visit
abbrev pub visit_name : List ℕ
visit_name = 118 ∷ 105 ∷ 115 ∷ 105 ∷ 116 ∷ []

-- spare_halfedges
abbrev pub spare_halfedges_name : List ℕ
spare_halfedges_name = 115 ∷ 112 ∷ 97 ∷ 114 ∷ 101 ∷ 95 ∷ 104 ∷ 97 ∷ 108 ∷ 102 ∷ 101 ∷ 100 ∷ 103 ∷ 101 ∷ 115 ∷ []

-- spare_positions
abbrev pub spare_positions_name : List ℕ
spare_positions_name = 115 ∷ 112 ∷ 97 ∷ 114 ∷ 101 ∷ 95 ∷ 112 ∷ 111 ∷ 115 ∷ 105 ∷ 116 ∷ 105 ∷ 111 ∷ 110 ∷ 115 ∷ []

-- halfedges
abbrev pub halfedges_name : List ℕ
halfedges_name = 104 ∷ 97 ∷ 108 ∷ 102 ∷ 101 ∷ 100 ∷ 103 ∷ 101 ∷ 115 ∷ []

-- positions
abbrev pub positions_name : List ℕ
positions_name = 112 ∷ 111 ∷ 115 ∷ 105 ∷ 116 ∷ 105 ∷ 111 ∷ 110 ∷ 115 ∷ []

-- normals
abbrev pub normals_name : List ℕ
normals_name = 110 ∷ 111 ∷ 114 ∷ 109 ∷ 97 ∷ 108 ∷ 115 ∷ []

-- references
abbrev pub references_name : List ℕ
references_name = 114 ∷ 101 ∷ 102 ∷ 101 ∷ 114 ∷ 101 ∷ 110 ∷ 99 ∷ 101 ∷ 115 ∷ []

-- properties
abbrev pub properties_name : List ℕ
properties_name = 112 ∷ 114 ∷ 111 ∷ 112 ∷ 101 ∷ 114 ∷ 116 ∷ 105 ∷ 101 ∷ 115 ∷ []

abbrev pub answer_said : List ℕ → ℕ → List (List ℕ)
answer_said entry number = answered entry number ++ ended

abbrev pub row_said : List ℕ → ℕ → ℕ → List (List ℕ)
row_said entry number row = answered entry number ++ (counted row_word row ++ ended)

abbrev pub lengths_said : List ℕ → ℕ → ℕ → ℕ → List (List ℕ)
lengths_said entry number length limit = answered entry number ++ (counted length_word length ++ (counted limit_word limit ++ ended))

abbrev pub next_said : List ℕ → ℕ → ℤ → List (List ℕ)
next_said entry number next = answered entry number ++ (with_sign next_word next ++ ended)

abbrev pub corners_said : List ℕ → ℕ → ℤ → ℤ → ℤ → List (List ℕ)
corners_said entry number first second third = answered entry number ++ (with_sign first_word first ++ (with_sign second_word second ++ (with_sign third_word third ++ ended)))

abbrev pub split_said : List ℕ → ℕ → ℕ → ℕ → ℕ → List (List ℕ)
split_said entry number row added steps = answered entry number ++ (counted row_word row ++ (counted added_word added ++ (counted steps_word steps ++ ended)))

abbrev pub owners_said : List ℕ → ℕ → ℕ → List (List ℕ)
owners_said entry number count = answered entry number ++ (counted count_word count ++ ended)

abbrev pub vertices_said : List ℕ → ℕ → ℕ → ℕ → List (List ℕ)
vertices_said entry number row vertices = answered entry number ++ (counted row_word row ++ (counted vertices_word vertices ++ ended))

abbrev pub grown_said : List ℕ → ℕ → ℕ → ℕ → ℕ → List (List ℕ)
grown_said entry number row halfedges vertices = answered entry number ++ (counted row_word row ++ (counted halfedges_word halfedges ++ (counted vertices_word vertices ++ ended)))

abbrev pub collapsed_said : List ℕ → ℕ → ℕ → ℕ → ℕ → ℕ → List (List ℕ)
collapsed_said entry number row vertices length limit = answered entry number ++ (counted row_word row ++ (counted vertices_word vertices ++ (counted length_word length ++ (counted limit_word limit ++ ended))))

abbrev pub spares_said : List ℤ → List ℕ → List (List ℕ)
spares_said spare_halfedges spare_positions = listed signed_pieces spare_halfedges_name spare_halfedges ++ (listed plain spare_positions_name spare_positions)

-- a work buffer, by how its elements are put, and a list; a work buffer and a visit list
abbrev pub buffers_said : {A : Type 0} → (A → List (List ℕ)) → List A → List ℕ → List (List ℕ)
buffers_said pieces work list = listed pieces work_name work ++ (listed plain list_name list)

abbrev pub visits_said : List ℕ → List ℕ → List (List ℕ)
visits_said work visit = listed plain work_name work ++ (listed plain visit_name visit)

abbrev pub arrays_said : List ℤ → List ℕ → List ℕ → List ℤ → List ℕ → List (List ℕ)
arrays_said halfedges positions normals references properties = listed signed_pieces halfedges_name halfedges ++ (listed plain positions_name positions ++ (listed plain normals_name normals ++ (listed signed_pieces references_name references ++ (listed plain properties_name properties))))

-- The text of the library.
use Rattle.std.specs.Prelude.{ℕ, List, [], ◌∷◌, ◌++◌, flat_map, codes}

abbrev pub library_lines : List (List ℕ)
library_lines =
    codes "TITLE LIBRARY;"
    ∷ codes "SVC DATA RRSIO; PROC() BYTE IN; PROC(BYTE) OUT; ENDDATA;"
    ∷ codes "ENT PROC TWRT(REF ARRAY BYTE T);"
    ∷ codes "FOR I := 1 TO LENGTH T DO OUT(T(I)) REP ENDPROC;"
    ∷ codes "ENT PROC NLS(INT N); TO N DO OUT(10) REP ENDPROC;"
    ∷ codes "ENT PROC SPS(INT N); TO N DO OUT(32) REP ENDPROC;"
    ∷ codes "ENT PROC HWRT(INT N); INT D;"
    ∷ codes "FOR I := 1 TO 4 DO D := N SRL (16 - 4 * I) LAND 15;"
    ∷ codes "IF D < 10 THEN OUT(BYTE(D + 48)) ELSE OUT(BYTE(D + 55)) END REP ENDPROC;"
    ∷ codes "PROC DIG(INT D, F) INT;"
    ∷ codes "IF F + D # 0 THEN OUT(BYTE(D + 48)); RETURN 1 END; RETURN 0 ENDPROC;"
    ∷ codes "ENT PROC IWRT(INT N); INT M := N, F;"
    ∷ codes "IF N < 0 THEN OUT('-') ELSE M := -N END;"
    ∷ codes "F := DIG(-(M :/ 10000), 0);"
    ∷ codes "F := DIG(-(M :/ 1000 MOD 10), F);"
    ∷ codes "F := DIG(-(M :/ 100 MOD 10), F);"
    ∷ codes "F := DIG(-(M :/ 10 MOD 10), F);"
    ∷ codes "DIG(-(M MOD 10), 1) ENDPROC;"
    ∷ codes "ENT PROC IREAD() INT; INT N, S; BYTE B; B := IN();"
    ∷ codes "WHILE B = 32 OR B = 10 OR B = 13 DO B := IN() REP;"
    ∷ codes "IF B = '-' THEN S := 1; B := IN() END;"
    ∷ codes "WHILE B >= '0' AND B <= '9' DO N := 10 * N + (B - '0'); B := IN() REP;"
    ∷ codes "IF S = 1 THEN RETURN -N END; RETURN N ENDPROC;"
    ∷ []

-- each line ends by LF, the last too
abbrev pub library_text : List ℕ
library_text = flat_map (λ line. line ++ 10 ∷ []) library_lines

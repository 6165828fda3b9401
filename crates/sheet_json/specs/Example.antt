-- What the form `json` prints for some figures, densities, spacings and records; the last record cannot be read.
use Rattle.std.specs.Prelude.{◌≡◌, [], ◌∷◌, codes}
use Rattle.sheet.specs.ExampleFigures.{figures, records}
use Rattle.sheet_json.specs.Json.{json_of}

abbrev pub JsonExample : Type 0
JsonExample =
    json_of figures (5 ∷ 12 ∷ []) (1 ∷ 0 ∷ []) records
    ≡ codes "{\"measures\":2,\"rows\":20,\"notes\":3,\"last_beat\":{\"beats\":15,\"over_48\":1,\"in_48ths\":721},\"main\":{\"total_arrows\":17,\"left\":5,\"down\":4,\"up\":3,\"right\":6,\"total_steps\":12,\"jumps\":1,\"hands\":0,\"mines\":7,\"holds\":1,\"rolls\":2,\"lifts\":8,\"fakes\":9,\"holding\":10,\"keysounds\":45,\"up_left\":48,\"up_right\":49},\"kept\":{\"total_arrows\":11,\"left\":12,\"down\":13,\"up\":14,\"right\":15,\"total_steps\":16,\"jumps\":17,\"hands\":18,\"mines\":19,\"holds\":20,\"rolls\":21,\"lifts\":22,\"fakes\":23,\"holding\":24,\"keysounds\":46,\"up_left\":50,\"up_right\":51},\"judged\":{\"total_arrows\":31,\"left\":32,\"down\":33,\"up\":34,\"right\":35,\"total_steps\":36,\"jumps\":37,\"hands\":38,\"mines\":39,\"holds\":40,\"rolls\":41,\"lifts\":42,\"fakes\":43,\"holding\":44,\"keysounds\":47,\"up_left\":52,\"up_right\":53},\"densities\":[5,12],\"equally_spaced\":[true,false],\"note_records\":[[0,2,0,null],[12,3,1,15],null]}"

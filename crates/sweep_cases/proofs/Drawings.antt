-- Small drawings, each with a rule and its fills by the unchanged Rust. The driver makes this file (`driver sweeps`).
use mathlib.Core.List.{List, [], ◌∷◌, ◌++◌}
use Prim.Native.Nat.{ℕ}
use lib.IntN.{ℤ, pos, negsuc}
use Rattle.segm.specs.CaseA.{segment}

pub record Drawn : Type 0 where
  pub rule : ℤ
  pub numbers : List ℤ
  pub fills : List ℕ

abbrev drawn0 : Drawn
drawn0 = record {
  rule = pos 0;
  numbers = segment (negsuc 16777215) (negsuc 10381297) (negsuc 16777195) (negsuc 10381309) (pos 0) (pos 1);
  fills = 4 ∷ [];
}

abbrev drawn1 : Drawn
drawn1 = record {
  rule = pos 0;
  numbers = segment (pos 1) (pos 0) (pos 2) (negsuc 2) (pos 0) (pos 0)
      ++ segment (pos 3) (pos 4) (pos 5) (pos 7) (pos 0) (pos 3);
  fills = 0 ∷ 12 ∷ [];
}

abbrev drawn2 : Drawn
drawn2 = record {
  rule = pos 0;
  numbers = segment (pos 16777210) (negsuc 11425465) (pos 16777211) (negsuc 11425467) (pos 0) (pos 1)
      ++ segment (pos 16777211) (negsuc 11425467) (pos 16777216) (negsuc 11425465) (pos 0) (pos 3)
      ++ segment (pos 16777212) (negsuc 11425462) (pos 16777216) (negsuc 11425465) (pos 0) (pos 2);
  fills = 4 ∷ 12 ∷ 8 ∷ [];
}

abbrev drawn3 : Drawn
drawn3 = record {
  rule = pos 0;
  numbers = segment (pos 8402433) (pos 16777215) (pos 8402434) (pos 16777216) (pos 1) (pos 1)
      ++ segment (pos 8402433) (pos 16777215) (pos 8402434) (pos 16777214) (negsuc 0) (pos 1)
      ++ segment (pos 8402434) (pos 16777214) (pos 8402435) (pos 16777215) (negsuc 0) (pos 1)
      ++ segment (pos 8402434) (pos 16777216) (pos 8402435) (pos 16777215) (pos 1) (pos 1);
  fills = 6 ∷ 5 ∷ 5 ∷ 6 ∷ [];
}

abbrev drawn4 : Drawn
drawn4 = record {
  rule = pos 0;
  numbers = segment (negsuc 16777215) (pos 10380379) (negsuc 14074506) (pos 12512658) (pos 0) (pos 0)
      ++ segment (negsuc 14074506) (pos 12512658) (negsuc 11145566) (pos 14823420) (negsuc 0) (pos 0)
      ++ segment (negsuc 14074506) (pos 12512658) (negsuc 11598028) (pos 14466454) (pos 1) (pos 0)
      ++ segment (negsuc 11598028) (pos 14466454) (negsuc 8669088) (pos 16777216) (pos 1) (pos 0)
      ++ segment (negsuc 11145566) (pos 14823420) (negsuc 8669088) (pos 16777216) (negsuc 0) (pos 0);
  fills = 0 ∷ 1 ∷ 2 ∷ 2 ∷ 1 ∷ [];
}

abbrev drawn5 : Drawn
drawn5 = record {
  rule = pos 0;
  numbers = segment (negsuc 1) (negsuc 1) (negsuc 0) (negsuc 0) (pos 0) (pos 0)
      ++ segment (negsuc 0) (negsuc 0) (negsuc 0) (pos 1) (pos 37) (pos 0)
      ++ segment (negsuc 0) (negsuc 0) (pos 1) (negsuc 0) (negsuc 36) (pos 0)
      ++ segment (negsuc 0) (pos 1) (pos 1) (pos 1) (pos 37) (pos 0)
      ++ segment (pos 1) (negsuc 0) (pos 1) (pos 1) (negsuc 36) (pos 0)
      ++ segment (pos 1) (pos 1) (pos 2) (pos 2) (pos 0) (pos 0);
  fills = 0 ∷ 2 ∷ 1 ∷ 2 ∷ 1 ∷ 0 ∷ [];
}

abbrev drawn6 : Drawn
drawn6 = record {
  rule = pos 0;
  numbers = segment (negsuc 9670575) (negsuc 4679562) (negsuc 5411916) (negsuc 5939885) (negsuc 2) (pos 3)
      ++ segment (negsuc 9670575) (negsuc 4679562) (negsuc 5390403) (negsuc 5375235) (pos 3) (pos 3)
      ++ segment (negsuc 5968050) (negsuc 4388546) (negsuc 5390403) (negsuc 5375235) (pos 0) (pos 3)
      ++ segment (negsuc 5411916) (negsuc 5939885) (negsuc 5390403) (negsuc 5375235) (negsuc 2) (pos 3)
      ++ segment (negsuc 5411916) (negsuc 5939885) (negsuc 1773930) (negsuc 7342819) (pos 0) (pos 3)
      ++ segment (negsuc 5390403) (negsuc 5375235) (negsuc 2929224) (negsuc 5369441) (pos 0) (pos 3)
      ++ segment (negsuc 5390403) (negsuc 5375235) (negsuc 1773930) (negsuc 7342819) (pos 0) (pos 1);
  fills = 13 ∷ 14 ∷ 12 ∷ 13 ∷ 12 ∷ 12 ∷ 4 ∷ [];
}

abbrev drawn7 : Drawn
drawn7 = record {
  rule = pos 0;
  numbers = segment (negsuc 16777215) (negsuc 16777215) (negsuc 14572847) (negsuc 16582983) (pos 1) (pos 0)
      ++ segment (negsuc 16777215) (negsuc 16777215) (negsuc 1984495) (negsuc 5842815) (negsuc 0) (pos 0)
      ++ segment (negsuc 16777215) (negsuc 16777215) (negsuc 8278671) (negsuc 11212899) (pos 0) (pos 0)
      ++ segment (negsuc 14572847) (negsuc 16582983) (negsuc 8278671) (negsuc 11212899) (pos 1) (pos 0)
      ++ segment (negsuc 14572847) (negsuc 16582983) (pos 219872) (negsuc 5648583) (pos 0) (pos 0)
      ++ segment (negsuc 8278671) (negsuc 11212899) (pos 219872) (negsuc 5648583) (pos 0) (pos 0)
      ++ segment (negsuc 8278671) (negsuc 11212899) (negsuc 1984495) (negsuc 5842815) (pos 1) (pos 0)
      ++ segment (negsuc 1984495) (negsuc 5842815) (pos 219872) (negsuc 5648583) (pos 0) (pos 0);
  fills = 1 ∷ 2 ∷ 3 ∷ 1 ∷ 0 ∷ 0 ∷ 1 ∷ 0 ∷ [];
}

abbrev drawn8 : Drawn
drawn8 = record {
  rule = pos 0;
  numbers = segment (negsuc 13008879) (pos 14117285) (negsuc 7959575) (pos 8775850) (negsuc 22) (pos 0)
      ++ segment (negsuc 13008879) (pos 14117285) (negsuc 8399065) (pos 9240767) (pos 37) (pos 0)
      ++ segment (negsuc 13008879) (pos 14117285) (negsuc 8700814) (pos 9559972) (negsuc 13) (pos 0)
      ++ segment (negsuc 8700814) (pos 9559972) (negsuc 8399065) (pos 9240767) (negsuc 36) (pos 0)
      ++ segment (negsuc 8700814) (pos 9559972) (negsuc 7959575) (pos 8775850) (pos 23) (pos 0)
      ++ segment (negsuc 7959575) (pos 8775850) (pos 9329322) (negsuc 9513312) (pos 0) (pos 0)
      ++ segment (negsuc 7959575) (pos 8775850) (pos 5106136) (negsuc 5045790) (pos 0) (pos 0)
      ++ segment (negsuc 2613178) (pos 3120131) (negsuc 1211657) (pos 1637523) (pos 0) (pos 0)
      ++ segment (negsuc 1308365) (pos 1739827) (pos 9329322) (negsuc 9513312) (pos 0) (pos 0);
  fills = 2 ∷ 1 ∷ 0 ∷ 2 ∷ 1 ∷ 0 ∷ 0 ∷ 0 ∷ 0 ∷ [];
}

abbrev drawn9 : Drawn
drawn9 = record {
  rule = pos 0;
  numbers = segment (negsuc 16777215) (pos 16777206) (negsuc 16777208) (pos 16777211) (pos 0) (pos 0)
      ++ segment (negsuc 16777210) (pos 16777198) (negsuc 16777203) (pos 16777203) (negsuc 20) (pos 0)
      ++ segment (negsuc 16777210) (pos 16777198) (negsuc 16777198) (pos 16777195) (pos 21) (pos 0)
      ++ segment (negsuc 16777208) (pos 16777211) (negsuc 16777201) (pos 16777216) (negsuc 189) (pos 0)
      ++ segment (negsuc 16777208) (pos 16777211) (negsuc 16777203) (pos 16777203) (pos 190) (pos 0)
      ++ segment (negsuc 16777205) (pos 16777190) (negsuc 16777198) (pos 16777195) (pos 0) (pos 3)
      ++ segment (negsuc 16777203) (pos 16777203) (negsuc 16777196) (pos 16777208) (pos 190) (pos 3)
      ++ segment (negsuc 16777203) (pos 16777203) (negsuc 16777198) (pos 16777195) (negsuc 20) (pos 0)
      ++ segment (negsuc 16777201) (pos 16777216) (negsuc 16777196) (pos 16777208) (negsuc 189) (pos 3)
      ++ segment (negsuc 16777198) (pos 16777195) (negsuc 16777191) (pos 16777200) (pos 0) (pos 3);
  fills = 0 ∷ 2 ∷ 1 ∷ 0 ∷ 0 ∷ 12 ∷ 12 ∷ 2 ∷ 12 ∷ 12 ∷ [];
}

abbrev drawn10 : Drawn
drawn10 = record {
  rule = pos 0;
  numbers = segment (negsuc 11825054) (pos 12317099) (negsuc 1153669) (pos 7797495) (negsuc 0) (pos 1)
      ++ segment (negsuc 11825054) (pos 12317099) (pos 15800867) (pos 616815) (negsuc 1) (pos 1)
      ++ segment (negsuc 11825054) (pos 12317099) (pos 10221631) (pos 2979766) (pos 3) (pos 2)
      ++ segment (negsuc 1153669) (pos 7797495) (pos 4108998) (pos 5568621) (pos 0) (pos 2)
      ++ segment (negsuc 1153669) (pos 7797495) (pos 11004501) (pos 2648199) (pos 2) (pos 2)
      ++ segment (negsuc 1153669) (pos 7797495) (pos 10221631) (pos 2979766) (negsuc 2) (pos 3)
      ++ segment (negsuc 1153669) (pos 7797495) (pos 2468640) (pos 6263355) (pos 0) (pos 3)
      ++ segment (pos 7891034) (pos 3966833) (pos 10221631) (pos 2979766) (negsuc 1) (pos 1)
      ++ segment (pos 7891034) (pos 3966833) (pos 15800867) (pos 616815) (pos 2) (pos 2)
      ++ segment (pos 10221631) (pos 2979766) (pos 15800867) (pos 616815) (negsuc 1) (pos 1)
      ++ segment (pos 11004501) (pos 2648199) (pos 15800867) (pos 616815) (pos 2) (pos 3);
  fills = 5 ∷ 4 ∷ 10 ∷ 8 ∷ 8 ∷ 13 ∷ 15 ∷ 4 ∷ 8 ∷ 4 ∷ 12 ∷ [];
}

abbrev drawn11 : Drawn
drawn11 = record {
  rule = pos 0;
  numbers = segment (pos 6068848) (negsuc 8046861) (pos 6703606) (negsuc 11084913) (pos 2) (pos 2)
      ++ segment (pos 6068848) (negsuc 8046861) (pos 7258174) (negsuc 13739163) (negsuc 1) (pos 3)
      ++ segment (pos 6372862) (negsuc 9501920) (pos 7165746) (negsuc 13296788) (negsuc 0) (pos 1)
      ++ segment (pos 6372862) (negsuc 9501920) (pos 6796034) (negsuc 11527288) (pos 1) (pos 2)
      ++ segment (pos 6676876) (negsuc 10956979) (pos 7073318) (negsuc 12854413) (pos 1) (pos 3)
      ++ segment (pos 6676876) (negsuc 10956979) (pos 6888462) (negsuc 11969663) (negsuc 0) (pos 2)
      ++ segment (pos 6703606) (negsuc 11084913) (pos 7892932) (negsuc 16777215) (pos 2) (pos 1)
      ++ segment (pos 6796034) (negsuc 11527288) (pos 7588918) (negsuc 15322156) (pos 1) (pos 1)
      ++ segment (pos 6888462) (negsuc 11969663) (pos 7284904) (negsuc 13867097) (negsuc 0) (pos 2)
      ++ segment (pos 7073318) (negsuc 12854413) (pos 7284904) (negsuc 13867097) (pos 1) (pos 1)
      ++ segment (pos 7165746) (negsuc 13296788) (pos 7588918) (negsuc 15322156) (negsuc 0) (pos 3)
      ++ segment (pos 7258174) (negsuc 13739163) (pos 7892932) (negsuc 16777215) (negsuc 1) (pos 2);
  fills = 8 ∷ 12 ∷ 6 ∷ 9 ∷ 13 ∷ 10 ∷ 4 ∷ 5 ∷ 10 ∷ 5 ∷ 14 ∷ 8 ∷ [];
}

abbrev drawn12 : Drawn
drawn12 = record {
  rule = pos 1;
  numbers = segment (negsuc 16777215) (negsuc 16644706) (negsuc 15727092) (negsuc 16777215) (pos 0) (pos 1);
  fills = 4 ∷ [];
}

abbrev drawn13 : Drawn
drawn13 = record {
  rule = pos 1;
  numbers = segment (negsuc 16777215) (pos 7453509) (negsuc 16777193) (pos 7453477) (pos 0) (pos 0)
      ++ segment (negsuc 16777208) (pos 7453511) (negsuc 16777164) (pos 7453447) (pos 0) (pos 0);
  fills = 0 ∷ 0 ∷ [];
}

abbrev drawn14 : Drawn
drawn14 = record {
  rule = pos 1;
  numbers = segment (pos 16777134) (negsuc 16777215) (pos 16777167) (negsuc 16777215) (pos 0) (pos 0)
      ++ segment (pos 16777176) (negsuc 16777210) (pos 16777178) (negsuc 16777215) (pos 0) (pos 0)
      ++ segment (pos 16777187) (negsuc 16777210) (pos 16777216) (negsuc 16777211) (pos 0) (pos 0);
  fills = 0 ∷ 0 ∷ 0 ∷ [];
}

abbrev drawn15 : Drawn
drawn15 = record {
  rule = pos 1;
  numbers = segment (pos 12231816) (pos 16271264) (pos 14278870) (pos 16777216) (pos 3) (pos 3)
      ++ segment (pos 12231816) (pos 16271264) (pos 14730162) (pos 14197080) (negsuc 2) (pos 3)
      ++ segment (pos 14278870) (pos 16777216) (pos 16777216) (pos 14703032) (pos 3) (pos 2)
      ++ segment (pos 14730162) (pos 14197080) (pos 16777216) (pos 14703032) (negsuc 2) (pos 1);
  fills = 14 ∷ 13 ∷ 10 ∷ 5 ∷ [];
}

abbrev drawn16 : Drawn
drawn16 = record {
  rule = pos 1;
  numbers = segment (negsuc 7) (pos 2) (pos 0) (pos 0) (pos 2) (pos 0)
      ++ segment (negsuc 7) (pos 2) (negsuc 4) (negsuc 6) (negsuc 1) (pos 2)
      ++ segment (negsuc 4) (negsuc 6) (pos 0) (pos 0) (negsuc 1) (pos 2)
      ++ segment (negsuc 0) (pos 9) (pos 0) (pos 0) (pos 0) (pos 0)
      ++ segment (pos 0) (pos 0) (pos 2) (pos 5) (pos 0) (pos 3);
  fills = 2 ∷ 9 ∷ 9 ∷ 0 ∷ 12 ∷ [];
}

abbrev drawn17 : Drawn
drawn17 = record {
  rule = pos 1;
  numbers = segment (negsuc 3422082) (negsuc 9254497) (pos 11214518) (pos 952714) (pos 19) (pos 0)
      ++ segment (negsuc 3422082) (negsuc 9254497) (negsuc 151591) (negsuc 7510013) (negsuc 18) (pos 0)
      ++ segment (negsuc 151591) (negsuc 7510013) (pos 962367) (negsuc 7230393) (negsuc 18) (pos 0)
      ++ segment (pos 962367) (negsuc 7230393) (pos 5513816) (negsuc 3944381) (negsuc 18) (pos 0)
      ++ segment (pos 5513816) (negsuc 3944381) (pos 7649012) (negsuc 2564685) (negsuc 18) (pos 0)
      ++ segment (pos 7649012) (negsuc 2564685) (pos 11214518) (pos 952714) (negsuc 18) (pos 0);
  fills = 2 ∷ 1 ∷ 1 ∷ 1 ∷ 1 ∷ 1 ∷ [];
}

abbrev drawn18 : Drawn
drawn18 = record {
  rule = pos 1;
  numbers = segment (negsuc 16777215) (pos 15357218) (negsuc 14706610) (pos 16067217) (pos 1) (pos 3)
      ++ segment (negsuc 16777215) (pos 15357218) (negsuc 14306750) (pos 13714339) (negsuc 0) (pos 3)
      ++ segment (negsuc 14706610) (pos 16067217) (negsuc 12636005) (pos 16777216) (pos 0) (pos 0)
      ++ segment (negsuc 14706610) (pos 16067217) (negsuc 12236145) (pos 14424338) (pos 1) (pos 3)
      ++ segment (negsuc 14306750) (pos 13714339) (negsuc 12236145) (pos 14424338) (negsuc 0) (pos 3)
      ++ segment (negsuc 12636005) (pos 16777216) (negsuc 10165540) (pos 15134337) (pos 0) (pos 0)
      ++ segment (negsuc 12236145) (pos 14424338) (negsuc 10165540) (pos 15134337) (pos 0) (pos 0);
  fills = 14 ∷ 13 ∷ 0 ∷ 14 ∷ 13 ∷ 0 ∷ 0 ∷ [];
}

abbrev drawn19 : Drawn
drawn19 = record {
  rule = pos 1;
  numbers = segment (pos 400244) (negsuc 16777215) (pos 1897912) (negsuc 13843063) (pos 265) (pos 0)
      ++ segment (pos 400244) (negsuc 16777215) (pos 584296) (negsuc 14279749) (negsuc 264) (pos 0)
      ++ segment (pos 584296) (negsuc 14279749) (pos 2081964) (negsuc 11345597) (negsuc 264) (pos 0)
      ++ segment (pos 676322) (negsuc 13031016) (pos 860374) (negsuc 10533550) (negsuc 826) (pos 0)
      ++ segment (pos 676322) (negsuc 13031016) (pos 2173990) (negsuc 10096864) (pos 827) (pos 0)
      ++ segment (pos 860374) (negsuc 10533550) (pos 2358042) (negsuc 7599398) (negsuc 826) (pos 0)
      ++ segment (pos 1897912) (negsuc 13843063) (pos 2081964) (negsuc 11345597) (pos 265) (pos 0)
      ++ segment (pos 2173990) (negsuc 10096864) (pos 2358042) (negsuc 7599398) (pos 827) (pos 0);
  fills = 1 ∷ 2 ∷ 2 ∷ 2 ∷ 1 ∷ 2 ∷ 1 ∷ 1 ∷ [];
}

abbrev drawn20 : Drawn
drawn20 = record {
  rule = pos 1;
  numbers = segment (pos 16777172) (pos 16777197) (pos 16777203) (pos 16777201) (pos 39) (pos 0)
      ++ segment (pos 16777172) (pos 16777197) (pos 16777176) (pos 16777182) (negsuc 38) (pos 0)
      ++ segment (pos 16777176) (pos 16777182) (pos 16777183) (pos 16777173) (negsuc 38) (pos 0)
      ++ segment (pos 16777183) (pos 16777173) (pos 16777194) (pos 16777161) (negsuc 38) (pos 0)
      ++ segment (pos 16777194) (pos 16777161) (pos 16777216) (pos 16777167) (negsuc 38) (pos 0)
      ++ segment (pos 16777198) (pos 16777185) (pos 16777211) (pos 16777174) (pos 39) (pos 0)
      ++ segment (pos 16777198) (pos 16777185) (pos 16777216) (pos 16777216) (negsuc 38) (pos 0)
      ++ segment (pos 16777203) (pos 16777201) (pos 16777216) (pos 16777216) (pos 39) (pos 0)
      ++ segment (pos 16777211) (pos 16777174) (pos 16777216) (pos 16777167) (pos 39) (pos 0);
  fills = 2 ∷ 1 ∷ 1 ∷ 1 ∷ 1 ∷ 2 ∷ 1 ∷ 2 ∷ 2 ∷ [];
}

abbrev drawn21 : Drawn
drawn21 = record {
  rule = pos 1;
  numbers = segment (pos 12405142) (negsuc 16121958) (pos 12935479) (negsuc 14578134) (pos 0) (pos 3)
      ++ segment (pos 12935479) (negsuc 14578134) (pos 13465816) (negsuc 13034310) (pos 1) (pos 3)
      ++ segment (pos 12935479) (negsuc 14578134) (pos 15716542) (negsuc 15233391) (negsuc 0) (pos 3)
      ++ segment (pos 13465816) (negsuc 13034310) (pos 13996153) (negsuc 11490486) (pos 0) (pos 3)
      ++ segment (pos 13465816) (negsuc 13034310) (pos 16777216) (negsuc 12145743) (pos 1) (pos 1)
      ++ segment (pos 13465816) (negsuc 13034310) (pos 16246879) (negsuc 13689567) (pos 0) (pos 3)
      ++ segment (pos 13465816) (negsuc 13034310) (pos 15716542) (negsuc 15233391) (pos 0) (pos 3)
      ++ segment (pos 15186205) (negsuc 16777215) (pos 15716542) (negsuc 15233391) (pos 0) (pos 3)
      ++ segment (pos 15716542) (negsuc 15233391) (pos 16246879) (negsuc 13689567) (negsuc 0) (pos 3)
      ++ segment (pos 16246879) (negsuc 13689567) (pos 16777216) (negsuc 12145743) (negsuc 0) (pos 0);
  fills = 12 ∷ 14 ∷ 13 ∷ 12 ∷ 6 ∷ 15 ∷ 15 ∷ 12 ∷ 13 ∷ 1 ∷ [];
}

abbrev drawn22 : Drawn
drawn22 = record {
  rule = pos 1;
  numbers = segment (pos 16776187) (negsuc 13463539) (pos 16776958) (negsuc 13463566) (pos 0) (pos 1)
      ++ segment (pos 16776382) (negsuc 13463526) (pos 16777068) (negsuc 13463522) (negsuc 1) (pos 3)
      ++ segment (pos 16776382) (negsuc 13463526) (pos 16776896) (negsuc 13463544) (pos 2) (pos 3)
      ++ segment (pos 16776577) (negsuc 13463513) (pos 16776834) (negsuc 13463522) (negsuc 0) (pos 2)
      ++ segment (pos 16776577) (negsuc 13463513) (pos 16776920) (negsuc 13463511) (pos 1) (pos 0)
      ++ segment (pos 16776834) (negsuc 13463522) (pos 16776864) (negsuc 13463523) (negsuc 0) (pos 2)
      ++ segment (pos 16776864) (negsuc 13463523) (pos 16776920) (negsuc 13463511) (negsuc 0) (pos 2)
      ++ segment (pos 16776896) (negsuc 13463544) (pos 16776956) (negsuc 13463546) (pos 2) (pos 2)
      ++ segment (pos 16776956) (negsuc 13463546) (pos 16777068) (negsuc 13463522) (pos 2) (pos 0)
      ++ segment (pos 16776958) (negsuc 13463566) (pos 16777048) (negsuc 13463569) (pos 0) (pos 1)
      ++ segment (pos 16777048) (negsuc 13463569) (pos 16777216) (negsuc 13463533) (pos 0) (pos 1);
  fills = 4 ∷ 14 ∷ 13 ∷ 9 ∷ 2 ∷ 9 ∷ 9 ∷ 9 ∷ 1 ∷ 4 ∷ 4 ∷ [];
}

abbrev drawn23 : Drawn
drawn23 = record {
  rule = pos 1;
  numbers = segment (pos 0) (pos 0) (pos 2) (pos 0) (pos 5) (pos 0)
      ++ segment (pos 0) (pos 0) (pos 0) (pos 2) (negsuc 4) (pos 0)
      ++ segment (pos 0) (pos 2) (pos 2) (pos 2) (negsuc 4) (pos 0)
      ++ segment (pos 2) (pos 0) (pos 2) (pos 2) (pos 5) (pos 3)
      ++ segment (pos 3) (pos 0) (pos 5) (pos 0) (pos 12) (pos 3)
      ++ segment (pos 3) (pos 0) (pos 3) (pos 2) (negsuc 11) (pos 1)
      ++ segment (pos 3) (pos 2) (pos 5) (pos 2) (negsuc 11) (pos 0)
      ++ segment (pos 5) (pos 0) (pos 5) (pos 2) (pos 12) (pos 0)
      ++ segment (pos 6) (pos 0) (pos 8) (pos 0) (pos 11) (pos 1)
      ++ segment (pos 6) (pos 0) (pos 6) (pos 2) (negsuc 10) (pos 3)
      ++ segment (pos 6) (pos 2) (pos 8) (pos 2) (negsuc 10) (pos 0)
      ++ segment (pos 8) (pos 0) (pos 8) (pos 2) (pos 11) (pos 0);
  fills = 1 ∷ 2 ∷ 2 ∷ 13 ∷ 13 ∷ 6 ∷ 2 ∷ 1 ∷ 5 ∷ 14 ∷ 2 ∷ 1 ∷ [];
}

abbrev drawn24 : Drawn
drawn24 = record {
  rule = pos 2;
  numbers = segment (negsuc 14495153) (pos 16777208) (negsuc 14495141) (pos 16777216) (pos 0) (pos 1);
  fills = 4 ∷ [];
}

abbrev drawn25 : Drawn
drawn25 = record {
  rule = pos 2;
  numbers = segment (negsuc 6483991) (pos 16777216) (negsuc 6483989) (pos 16777214) (pos 0) (pos 0)
      ++ segment (negsuc 6483990) (pos 16777212) (negsuc 6483990) (pos 16777214) (pos 0) (pos 0);
  fills = 0 ∷ 0 ∷ [];
}

abbrev drawn26 : Drawn
drawn26 = record {
  rule = pos 2;
  numbers = segment (negsuc 8715224) (negsuc 16777215) (negsuc 7958547) (negsuc 16380621) (pos 0) (pos 0)
      ++ segment (negsuc 6845282) (negsuc 15797130) (negsuc 6221968) (negsuc 15470435) (pos 0) (pos 2)
      ++ segment (negsuc 6845282) (negsuc 15797130) (negsuc 6088605) (negsuc 15400536) (pos 0) (pos 1);
  fills = 0 ∷ 8 ∷ 4 ∷ [];
}

abbrev drawn27 : Drawn
drawn27 = record {
  rule = pos 2;
  numbers = segment (negsuc 0) (negsuc 0) (negsuc 0) (pos 1) (negsuc 118) (pos 2)
      ++ segment (negsuc 0) (negsuc 0) (pos 1) (negsuc 0) (pos 119) (pos 2)
      ++ segment (negsuc 0) (pos 1) (pos 1) (pos 1) (negsuc 118) (pos 2)
      ++ segment (pos 1) (negsuc 0) (pos 1) (pos 1) (pos 119) (pos 2);
  fills = 10 ∷ 9 ∷ 10 ∷ 9 ∷ [];
}

abbrev drawn28 : Drawn
drawn28 = record {
  rule = pos 2;
  numbers = segment (negsuc 7653940) (negsuc 16777214) (negsuc 7653939) (negsuc 16777215) (pos 1) (pos 0)
      ++ segment (negsuc 7653940) (negsuc 16777214) (negsuc 7653939) (negsuc 16777214) (negsuc 0) (pos 0)
      ++ segment (negsuc 7653940) (negsuc 16777214) (negsuc 7653940) (negsuc 16777213) (pos 0) (pos 0)
      ++ segment (negsuc 7653940) (negsuc 16777213) (negsuc 7653939) (negsuc 16777213) (pos 0) (pos 0)
      ++ segment (negsuc 7653939) (negsuc 16777215) (negsuc 7653939) (negsuc 16777214) (pos 1) (pos 0);
  fills = 1 ∷ 2 ∷ 0 ∷ 0 ∷ 1 ∷ [];
}

abbrev drawn29 : Drawn
drawn29 = record {
  rule = pos 2;
  numbers = segment (pos 16777213) (negsuc 5538217) (pos 16777215) (negsuc 5538217) (pos 3) (pos 1)
      ++ segment (pos 16777213) (negsuc 5538217) (pos 16777213) (negsuc 5538215) (negsuc 2) (pos 2)
      ++ segment (pos 16777213) (negsuc 5538215) (pos 16777215) (negsuc 5538215) (negsuc 2) (pos 1)
      ++ segment (pos 16777215) (negsuc 5538217) (pos 16777215) (negsuc 5538215) (pos 3) (pos 3)
      ++ segment (pos 16777215) (negsuc 5538217) (pos 16777216) (negsuc 5538218) (pos 0) (pos 1)
      ++ segment (pos 16777215) (negsuc 5538215) (pos 16777216) (negsuc 5538214) (pos 0) (pos 2);
  fills = 5 ∷ 10 ∷ 6 ∷ 13 ∷ 4 ∷ 8 ∷ [];
}

abbrev drawn30 : Drawn
drawn30 = record {
  rule = pos 2;
  numbers = segment (pos 6603011) (pos 9013734) (pos 9290585) (pos 11333080) (pos 2) (pos 3)
      ++ segment (pos 6603011) (pos 9013734) (pos 8086547) (pos 10941547) (negsuc 1) (pos 1)
      ++ segment (pos 8086547) (pos 10941547) (pos 9570083) (pos 12869360) (negsuc 0) (pos 2)
      ++ segment (pos 8086547) (pos 10941547) (pos 10774121) (pos 13260893) (negsuc 0) (pos 1)
      ++ segment (pos 9290585) (pos 11333080) (pos 10774121) (pos 13260893) (pos 2) (pos 3)
      ++ segment (pos 9570083) (pos 12869360) (pos 12257657) (pos 15188706) (negsuc 0) (pos 2)
      ++ segment (pos 10774121) (pos 13260893) (pos 12257657) (pos 15188706) (pos 1) (pos 3);
  fills = 13 ∷ 6 ∷ 10 ∷ 7 ∷ 13 ∷ 10 ∷ 13 ∷ [];
}

abbrev drawn31 : Drawn
drawn31 = record {
  rule = pos 2;
  numbers = segment (negsuc 16777215) (negsuc 16777215) (negsuc 16777215) (negsuc 16777207) (negsuc 28) (pos 1)
      ++ segment (negsuc 16777215) (negsuc 16777215) (negsuc 16777211) (negsuc 16777211) (pos 29) (pos 2)
      ++ segment (negsuc 16777215) (negsuc 16777215) (negsuc 16777207) (negsuc 16777215) (pos 0) (pos 0)
      ++ segment (negsuc 16777215) (negsuc 16777207) (negsuc 16777207) (negsuc 16777207) (negsuc 28) (pos 0)
      ++ segment (negsuc 16777215) (negsuc 16777207) (negsuc 16777211) (negsuc 16777211) (pos 0) (pos 2)
      ++ segment (negsuc 16777211) (negsuc 16777211) (negsuc 16777207) (negsuc 16777215) (pos 11) (pos 3)
      ++ segment (negsuc 16777211) (negsuc 16777211) (negsuc 16777207) (negsuc 16777207) (pos 18) (pos 0)
      ++ segment (negsuc 16777207) (negsuc 16777215) (negsuc 16777207) (negsuc 16777207) (pos 11) (pos 0);
  fills = 6 ∷ 9 ∷ 0 ∷ 2 ∷ 11 ∷ 13 ∷ 3 ∷ 1 ∷ [];
}

abbrev drawn32 : Drawn
drawn32 = record {
  rule = pos 2;
  numbers = segment (pos 8080822) (negsuc 4691592) (pos 12429019) (negsuc 2481111) (pos 150) (pos 1)
      ++ segment (pos 8080822) (negsuc 4691592) (pos 8165533) (pos 5575970) (negsuc 149) (pos 0)
      ++ segment (pos 8165533) (pos 5575970) (pos 12429019) (negsuc 2481111) (negsuc 149) (pos 0)
      ++ segment (pos 11320792) (negsuc 5600622) (pos 14476051) (negsuc 16777215) (negsuc 626) (pos 1)
      ++ segment (pos 11320792) (negsuc 5600622) (pos 12429019) (negsuc 2481111) (pos 627) (pos 0)
      ++ segment (pos 11405503) (pos 4666940) (pos 12429019) (negsuc 2481111) (pos 0) (pos 0)
      ++ segment (pos 12429019) (negsuc 2481111) (pos 13537246) (pos 638399) (pos 0) (pos 0)
      ++ segment (pos 12429019) (negsuc 2481111) (pos 16777216) (negsuc 270630) (pos 0) (pos 0)
      ++ segment (pos 12429019) (negsuc 2481111) (pos 14476051) (negsuc 16777215) (pos 627) (pos 0);
  fills = 5 ∷ 2 ∷ 2 ∷ 4 ∷ 0 ∷ 0 ∷ 0 ∷ 0 ∷ 0 ∷ [];
}

abbrev drawn33 : Drawn
drawn33 = record {
  rule = pos 2;
  numbers = segment (negsuc 15867159) (negsuc 16777215) (negsuc 15867152) (negsuc 16777212) (pos 0) (pos 2)
      ++ segment (negsuc 15867159) (negsuc 16777215) (negsuc 15867150) (negsuc 16777208) (pos 0) (pos 1)
      ++ segment (negsuc 15867152) (negsuc 16777212) (negsuc 15867143) (negsuc 16777205) (pos 0) (pos 0)
      ++ segment (negsuc 15867150) (negsuc 16777208) (negsuc 15867134) (negsuc 16777198) (pos 19) (pos 1)
      ++ segment (negsuc 15867150) (negsuc 16777208) (negsuc 15867143) (negsuc 16777205) (negsuc 18) (pos 3)
      ++ segment (negsuc 15867143) (negsuc 16777205) (negsuc 15867134) (negsuc 16777198) (negsuc 18) (pos 3)
      ++ segment (negsuc 15867141) (negsuc 16777201) (negsuc 15867134) (negsuc 16777198) (pos 589) (pos 3)
      ++ segment (negsuc 15867141) (negsuc 16777201) (negsuc 15867132) (negsuc 16777194) (negsuc 588) (pos 3)
      ++ segment (negsuc 15867134) (negsuc 16777198) (negsuc 15867125) (negsuc 16777191) (pos 589) (pos 3)
      ++ segment (negsuc 15867132) (negsuc 16777194) (negsuc 15867125) (negsuc 16777191) (negsuc 588) (pos 3);
  fills = 8 ∷ 4 ∷ 0 ∷ 4 ∷ 12 ∷ 12 ∷ 13 ∷ 14 ∷ 13 ∷ 14 ∷ [];
}

abbrev drawn34 : Drawn
drawn34 = record {
  rule = pos 2;
  numbers = segment (negsuc 6830605) (negsuc 10034595) (negsuc 5194514) (pos 4380343) (pos 0) (pos 2)
      ++ segment (negsuc 6787019) (negsuc 9650575) (negsuc 6466997) (negsuc 6830983) (pos 0) (pos 2)
      ++ segment (negsuc 6787019) (negsuc 9650575) (negsuc 5194514) (pos 4380343) (pos 0) (pos 1)
      ++ segment (negsuc 6466997) (negsuc 6830983) (negsuc 5194514) (pos 4380343) (pos 0) (pos 1)
      ++ segment (negsuc 5885258) (negsuc 1705522) (negsuc 5194514) (pos 4380343) (pos 0) (pos 3)
      ++ segment (negsuc 5194514) (pos 4380343) (negsuc 5033094) (pos 5802554) (pos 0) (pos 2)
      ++ segment (negsuc 5171490) (pos 4583186) (negsuc 5033094) (pos 5802554) (pos 306) (pos 3)
      ++ segment (negsuc 5171490) (pos 4583186) (negsuc 4371701) (pos 11629803) (negsuc 305) (pos 2)
      ++ segment (negsuc 5033094) (pos 5802554) (negsuc 4371701) (pos 11629803) (pos 798) (pos 3)
      ++ segment (negsuc 5033094) (pos 5802554) (negsuc 4811899) (pos 7751418) (negsuc 491) (pos 3)
      ++ segment (negsuc 4811899) (pos 7751418) (negsuc 4371701) (pos 11629803) (negsuc 491) (pos 2);
  fills = 8 ∷ 8 ∷ 4 ∷ 4 ∷ 12 ∷ 8 ∷ 12 ∷ 8 ∷ 13 ∷ 14 ∷ 10 ∷ [];
}

abbrev drawn35 : Drawn
drawn35 = record {
  rule = pos 2;
  numbers = segment (negsuc 3620284) (pos 3438247) (negsuc 3620283) (pos 3438246) (pos 2) (pos 2)
      ++ segment (negsuc 3620284) (pos 3438247) (negsuc 3620283) (pos 3438248) (negsuc 1) (pos 0)
      ++ segment (negsuc 3620283) (pos 3438246) (negsuc 3620282) (pos 3438247) (pos 2) (pos 1)
      ++ segment (negsuc 3620283) (pos 3438248) (negsuc 3620282) (pos 3438247) (negsuc 1) (pos 3)
      ++ segment (negsuc 3620280) (pos 3438247) (negsuc 3620279) (pos 3438246) (pos 0) (pos 0)
      ++ segment (negsuc 3620280) (pos 3438247) (negsuc 3620279) (pos 3438248) (pos 0) (pos 3)
      ++ segment (negsuc 3620279) (pos 3438246) (negsuc 3620278) (pos 3438247) (pos 0) (pos 1)
      ++ segment (negsuc 3620279) (pos 3438248) (negsuc 3620278) (pos 3438247) (pos 0) (pos 0)
      ++ segment (negsuc 3620278) (pos 3438247) (negsuc 3620277) (pos 3438246) (negsuc 1) (pos 3)
      ++ segment (negsuc 3620278) (pos 3438247) (negsuc 3620277) (pos 3438248) (pos 2) (pos 1)
      ++ segment (negsuc 3620277) (pos 3438246) (negsuc 3620276) (pos 3438247) (negsuc 1) (pos 2)
      ++ segment (negsuc 3620277) (pos 3438248) (negsuc 3620276) (pos 3438247) (pos 2) (pos 2);
  fills = 9 ∷ 2 ∷ 5 ∷ 14 ∷ 0 ∷ 12 ∷ 4 ∷ 0 ∷ 12 ∷ 4 ∷ 8 ∷ 8 ∷ [];
}

abbrev drawn36 : Drawn
drawn36 = record {
  rule = pos 3;
  numbers = segment (pos 0) (pos 0) (pos 3) (pos 5) (pos 0) (pos 1);
  fills = 4 ∷ [];
}

abbrev drawn37 : Drawn
drawn37 = record {
  rule = pos 3;
  numbers = segment (negsuc 16777215) (pos 3564216) (negsuc 16777212) (pos 3564219) (pos 0) (pos 0)
      ++ segment (negsuc 16777212) (pos 3564222) (negsuc 16777207) (pos 3564221) (pos 0) (pos 1);
  fills = 0 ∷ 4 ∷ [];
}

abbrev drawn38 : Drawn
drawn38 = record {
  rule = pos 3;
  numbers = segment (negsuc 16777215) (negsuc 16777215) (negsuc 16777214) (negsuc 0) (pos 0) (pos 0)
      ++ segment (negsuc 16777215) (negsuc 16777214) (negsuc 16777214) (pos 1) (pos 0) (pos 0)
      ++ segment (pos 1) (pos 1) (pos 8388608) (pos 16777215) (pos 0) (pos 0);
  fills = 0 ∷ 0 ∷ 0 ∷ [];
}

abbrev drawn39 : Drawn
drawn39 = record {
  rule = pos 3;
  numbers = segment (negsuc 16777215) (pos 16777216) (negsuc 1456363) (pos 8671190) (pos 1) (pos 3)
      ++ segment (negsuc 16777215) (pos 16777216) (negsuc 11342129) (pos 13901596) (negsuc 0) (pos 3)
      ++ segment (negsuc 11342129) (pos 13901596) (pos 3978722) (pos 5795570) (negsuc 0) (pos 3)
      ++ segment (negsuc 1456363) (pos 8671190) (pos 3978722) (pos 5795570) (pos 1) (pos 0);
  fills = 14 ∷ 13 ∷ 13 ∷ 2 ∷ [];
}

abbrev drawn40 : Drawn
drawn40 = record {
  rule = pos 3;
  numbers = segment (negsuc 9281828) (pos 15851019) (negsuc 9281772) (pos 15851068) (negsuc 408) (pos 0)
      ++ segment (negsuc 9281828) (pos 15851019) (negsuc 9281780) (pos 15851024) (pos 409) (pos 0)
      ++ segment (negsuc 9281780) (pos 15851024) (negsuc 9281770) (pos 15851042) (negsuc 53) (pos 0)
      ++ segment (negsuc 9281780) (pos 15851024) (negsuc 9281772) (pos 15851068) (pos 463) (pos 0)
      ++ segment (negsuc 9281772) (pos 15851068) (negsuc 9281770) (pos 15851042) (pos 54) (pos 0);
  fills = 0 ∷ 0 ∷ 1 ∷ 2 ∷ 2 ∷ [];
}

abbrev drawn41 : Drawn
drawn41 = record {
  rule = pos 3;
  numbers = segment (negsuc 16377975) (pos 15283252) (negsuc 16377965) (pos 15283245) (pos 1) (pos 3)
      ++ segment (negsuc 16377975) (pos 15283252) (negsuc 16377966) (pos 15283243) (negsuc 0) (pos 3)
      ++ segment (negsuc 16377975) (pos 15283252) (negsuc 16377966) (pos 15283240) (pos 0) (pos 2)
      ++ segment (negsuc 16377966) (pos 15283240) (negsuc 16377966) (pos 15283243) (pos 1) (pos 0)
      ++ segment (negsuc 16377966) (pos 15283240) (negsuc 16377965) (pos 15283245) (negsuc 0) (pos 0)
      ++ segment (negsuc 16377966) (pos 15283243) (negsuc 16377965) (pos 15283245) (pos 0) (pos 3);
  fills = 14 ∷ 13 ∷ 8 ∷ 2 ∷ 1 ∷ 15 ∷ [];
}

abbrev drawn42 : Drawn
drawn42 = record {
  rule = pos 3;
  numbers = segment (pos 16777195) (pos 14057962) (pos 16777202) (pos 14057964) (pos 0) (pos 2)
      ++ segment (pos 16777202) (pos 14057961) (pos 16777202) (pos 14057964) (pos 0) (pos 2)
      ++ segment (pos 16777202) (pos 14057961) (pos 16777209) (pos 14057963) (pos 0) (pos 2)
      ++ segment (pos 16777202) (pos 14057964) (pos 16777209) (pos 14057966) (pos 97) (pos 2)
      ++ segment (pos 16777202) (pos 14057964) (pos 16777209) (pos 14057963) (negsuc 96) (pos 2)
      ++ segment (pos 16777209) (pos 14057963) (pos 16777216) (pos 14057965) (negsuc 96) (pos 2)
      ++ segment (pos 16777209) (pos 14057966) (pos 16777216) (pos 14057965) (pos 97) (pos 2);
  fills = 8 ∷ 8 ∷ 8 ∷ 10 ∷ 9 ∷ 9 ∷ 10 ∷ [];
}

abbrev drawn43 : Drawn
drawn43 = record {
  rule = pos 3;
  numbers = segment (pos 16777176) (negsuc 16777215) (pos 16777208) (negsuc 16777175) (negsuc 0) (pos 2)
      ++ segment (pos 16777176) (negsuc 16777215) (pos 16777184) (negsuc 16777191) (pos 2) (pos 3)
      ++ segment (pos 16777176) (negsuc 16777215) (pos 16777196) (negsuc 16777183) (negsuc 0) (pos 1)
      ++ segment (pos 16777184) (negsuc 16777191) (pos 16777216) (negsuc 16777151) (pos 4) (pos 2)
      ++ segment (pos 16777184) (negsuc 16777191) (pos 16777196) (negsuc 16777183) (negsuc 1) (pos 2)
      ++ segment (pos 16777196) (negsuc 16777183) (pos 16777208) (negsuc 16777175) (negsuc 0) (pos 3)
      ++ segment (pos 16777196) (negsuc 16777183) (pos 16777216) (negsuc 16777151) (negsuc 1) (pos 3)
      ++ segment (pos 16777208) (negsuc 16777175) (pos 16777216) (negsuc 16777151) (negsuc 1) (pos 3);
  fills = 9 ∷ 14 ∷ 7 ∷ 10 ∷ 11 ∷ 15 ∷ 15 ∷ 13 ∷ [];
}

abbrev drawn44 : Drawn
drawn44 = record {
  rule = pos 3;
  numbers = segment (negsuc 16777215) (pos 11595442) (negsuc 16666828) (pos 12381523) (pos 606) (pos 2)
      ++ segment (negsuc 16777215) (pos 11595442) (negsuc 16571457) (pos 13060673) (negsuc 605) (pos 0)
      ++ segment (negsuc 16666828) (pos 12381523) (negsuc 16461070) (pos 13846754) (pos 606) (pos 0)
      ++ segment (negsuc 16571457) (pos 13060673) (negsuc 16461070) (pos 13846754) (negsuc 605) (pos 0)
      ++ segment (negsuc 16571457) (pos 13060673) (negsuc 16365699) (pos 14525904) (pos 0) (pos 3)
      ++ segment (negsuc 16461070) (pos 13846754) (negsuc 16255312) (pos 15311985) (pos 0) (pos 0)
      ++ segment (negsuc 16365699) (pos 14525904) (negsuc 16255312) (pos 15311985) (pos 0) (pos 0)
      ++ segment (negsuc 16365699) (pos 14525904) (negsuc 16159941) (pos 15991135) (pos 0) (pos 3)
      ++ segment (negsuc 16255312) (pos 15311985) (negsuc 16049554) (pos 16777216) (pos 0) (pos 1);
  fills = 10 ∷ 1 ∷ 2 ∷ 1 ∷ 12 ∷ 0 ∷ 0 ∷ 12 ∷ 4 ∷ [];
}

abbrev drawn45 : Drawn
drawn45 = record {
  rule = pos 3;
  numbers = segment (negsuc 16777215) (pos 16777214) (negsuc 16777215) (pos 16777215) (pos 0) (pos 3)
      ++ segment (negsuc 16777215) (pos 16777215) (negsuc 16777215) (pos 16777216) (pos 1) (pos 3)
      ++ segment (negsuc 16777215) (pos 16777215) (negsuc 16777214) (pos 16777214) (negsuc 0) (pos 3)
      ++ segment (negsuc 16777215) (pos 16777216) (negsuc 16777214) (pos 16777215) (pos 1) (pos 3)
      ++ segment (negsuc 16777214) (pos 16777214) (negsuc 16777214) (pos 16777215) (negsuc 0) (pos 3)
      ++ segment (negsuc 16777214) (pos 16777214) (negsuc 16777213) (pos 16777214) (pos 0) (pos 3)
      ++ segment (negsuc 16777214) (pos 16777215) (negsuc 16777214) (pos 16777216) (pos 0) (pos 3)
      ++ segment (negsuc 16777214) (pos 16777216) (negsuc 16777213) (pos 16777216) (pos 0) (pos 3)
      ++ segment (negsuc 16777213) (pos 16777214) (negsuc 16777213) (pos 16777215) (pos 0) (pos 0)
      ++ segment (negsuc 16777213) (pos 16777215) (negsuc 16777213) (pos 16777216) (pos 0) (pos 0);
  fills = 12 ∷ 14 ∷ 13 ∷ 14 ∷ 13 ∷ 12 ∷ 12 ∷ 12 ∷ 0 ∷ 0 ∷ [];
}

abbrev drawn46 : Drawn
drawn46 = record {
  rule = pos 3;
  numbers = segment (pos 3458870) (pos 16777216) (pos 6979749) (pos 16354197) (pos 1) (pos 3)
      ++ segment (pos 3458870) (pos 16777216) (pos 6597164) (pos 16400163) (negsuc 0) (pos 2)
      ++ segment (pos 6597164) (pos 16400163) (pos 13256337) (pos 15600091) (negsuc 3) (pos 1)
      ++ segment (pos 6597164) (pos 16400163) (pos 9735458) (pos 16023110) (pos 1) (pos 3)
      ++ segment (pos 6597164) (pos 16400163) (pos 10118043) (pos 15977144) (pos 2) (pos 1)
      ++ segment (pos 6979749) (pos 16354197) (pos 10500628) (pos 15931178) (pos 0) (pos 1)
      ++ segment (pos 6979749) (pos 16354197) (pos 10118043) (pos 15977144) (pos 1) (pos 1)
      ++ segment (pos 9735458) (pos 16023110) (pos 13256337) (pos 15600091) (pos 1) (pos 1)
      ++ segment (pos 10118043) (pos 15977144) (pos 13638922) (pos 15554125) (pos 3) (pos 2)
      ++ segment (pos 13256337) (pos 15600091) (pos 13638922) (pos 15554125) (negsuc 2) (pos 2)
      ++ segment (pos 13256337) (pos 15600091) (pos 16777216) (pos 15177072) (pos 0) (pos 3);
  fills = 14 ∷ 9 ∷ 5 ∷ 12 ∷ 7 ∷ 4 ∷ 6 ∷ 4 ∷ 10 ∷ 9 ∷ 12 ∷ [];
}

abbrev drawn47 : Drawn
drawn47 = record {
  rule = pos 3;
  numbers = segment (negsuc 56) (pos 34) (negsuc 37) (negsuc 57) (pos 21) (pos 0)
      ++ segment (negsuc 56) (pos 34) (negsuc 41) (pos 57) (negsuc 20) (pos 0)
      ++ segment (negsuc 56) (pos 34) (pos 0) (pos 0) (pos 0) (pos 0)
      ++ segment (negsuc 41) (pos 57) (pos 0) (pos 0) (negsuc 20) (pos 0)
      ++ segment (negsuc 37) (negsuc 57) (pos 0) (pos 0) (pos 21) (pos 0)
      ++ segment (negsuc 24) (negsuc 50) (pos 42) (negsuc 48) (pos 0) (pos 0)
      ++ segment (negsuc 24) (negsuc 50) (pos 0) (pos 0) (pos 0) (pos 2)
      ++ segment (pos 0) (pos 0) (pos 42) (negsuc 48) (pos 0) (pos 0)
      ++ segment (pos 0) (pos 0) (pos 30) (negsuc 23) (pos 0) (pos 0)
      ++ segment (pos 0) (pos 0) (pos 60) (negsuc 16) (negsuc 27) (pos 0)
      ++ segment (pos 0) (pos 0) (pos 10) (pos 50) (pos 28) (pos 0)
      ++ segment (pos 10) (pos 50) (pos 60) (negsuc 16) (pos 28) (pos 0);
  fills = 0 ∷ 0 ∷ 0 ∷ 0 ∷ 0 ∷ 0 ∷ 8 ∷ 0 ∷ 0 ∷ 1 ∷ 2 ∷ 2 ∷ [];
}

abbrev pub drawings : List Drawn
drawings = drawn0 ∷ drawn1 ∷ drawn2 ∷ drawn3 ∷ drawn4 ∷ drawn5 ∷ drawn6 ∷ drawn7 ∷ drawn8 ∷ drawn9 ∷ drawn10 ∷ drawn11 ∷ drawn12 ∷ drawn13 ∷ drawn14 ∷ drawn15 ∷ drawn16 ∷ drawn17 ∷ drawn18 ∷ drawn19 ∷ drawn20 ∷ drawn21 ∷ drawn22 ∷ drawn23 ∷ drawn24 ∷ drawn25 ∷ drawn26 ∷ drawn27 ∷ drawn28 ∷ drawn29 ∷ drawn30 ∷ drawn31 ∷ drawn32 ∷ drawn33 ∷ drawn34 ∷ drawn35 ∷ drawn36 ∷ drawn37 ∷ drawn38 ∷ drawn39 ∷ drawn40 ∷ drawn41 ∷ drawn42 ∷ drawn43 ∷ drawn44 ∷ drawn45 ∷ drawn46 ∷ drawn47 ∷ []

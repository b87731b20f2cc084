mod Fuel
